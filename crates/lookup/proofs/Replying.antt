-- From a row made ready to the reply: what is found by ranks is what plays give. Assumes nothing.
use mathlib.Core.List.{List}
use mathlib.Core.Path.{sym, ◌∙◌, transport}
use Prim.Native.Nat.{ℕ, ◌<◌}
use Rattle.block.specs.Layout as L
use Rattle.block.specs.Layout.{Block, Strategic}
use Rattle.block.specs.Inner.Valid.{Valid}
use Rattle.game.specs.Position.{Arena, Position, IsPosition, number, Reply, Allowed, outcome}
use Rattle.game.specs.Play.{Objective}
use Rattle.game.specs.Table.{Table, ReplyIs}
use Rattle.game.specs.Inner.Facts.{Claims}
use Rattle.turns.specs.Buffers.{rank_in}
use Rattle.game.specs.Model.{arena_of, objective_of}
use Rattle.game.specs.Inner.Words.{objective_by}
use Rattle.game.proofs.Bridge.Proper.{Proper}
use Rattle.game.proofs.Bridge.Plays.{outcome_fits}
use Rattle.game.proofs.Local.Lower.{Retold, same_next, same_always, same_until}
use Rattle.game.proofs.Blocks.Passing.{valid_proper}
use Rattle.game.proofs.Whole.Decided.{unclaimed_opponents, reply_by_plays}
use Rattle.rankings.specs.Kinds.{ClaimsBy}
use Rattle.choice.specs.Tables.{ReplyFor}
use Rattle.rankings.proofs.ByKind.{claims_by}
use Rattle.solver.specs.Inner.Labels.{Prepared}
use Rattle.solver.proofs.Readiness.{retold_claims, row_retold, ready_table, row_facts, ready_decided}
use Rattle.game.specs.Demand.{RowReply}

-- a reply that is right over lower rows' sets is right over their truth
module _ (G : Arena) (proper : Proper G.structure) (X : Table) (p : Position) (fits : IsPosition G p) (m : ℕ) (allowed : Allowed G p m) (r : ℕ) where
  lands : (k : ℕ) → Reply G p k → (outcome G p m k).state < G.structure.states
  lands k reply = (outcome_fits G proper p m k fits allowed.0 reply).0

  retold_reply : {t t' : Objective} → Retold G t t' → ReplyIs G X t (Claims G X t) p m r → ReplyIs G X t' (Claims G X t') p m r
  retold_reply (same_next {left} {left'} l) at = record {
    won = at.won;
    failed = at.failed;
    best = λ loses unfailed.
        let (found, none) = at.best loses unfailed in (
          (found.0, λ h. found.1 ((l (outcome G p m r).state (lands r found.0)).1 h)),
          λ k less (reply, fails). none k less (reply, λ h. fails ((l (outcome G p m k).state (lands k reply)).0 h)),
        );
  }
  retold_reply (same_always l) at = record { won = at.won; failed = at.failed; best = at.best }
  retold_reply (same_until {left} {left'} {right} {right'} l l'') at = record {
    won = at.won;
    failed = λ (no-left, no-right). at.failed ((λ h. no-left ((l p.state fits.0).0 h)), λ h. no-right ((l'' p.state fits.0).0 h));
    best = λ loses unfailed. at.best loses (λ (no-left, no-right). unfailed ((λ h. no-left ((l p.state fits.0).1 h)), λ h. no-right ((l'' p.state fits.0).1 h)));
  }

-- what goes with the ranks is the row's reply, where the coalition does not win
module _ {b : Block} (valid : Valid b) {i : ℕ} (inside : i < L.rows b) (strategic : Strategic (L.kind b i)) {left right : ℕ} {ranks : List ℕ} (ready : Prepared b i left right ranks)
    {p : Position} (fits : IsPosition (arena_of b i) p) (unclaimed : ClaimsBy (L.kind b i) (rank_in ranks (number (arena_of b i) p)) → ⊥) {m : ℕ} (allowed : Allowed (arena_of b i) p m) where
  abbrev X : Table
  X = ready_table valid inside strategic ready

  row_told : Retold (arena_of b i) (objective_by (L.kind b i) left right) (objective_of b i)
  row_told = row_retold b valid i inside left right ready.left_set ready.right_set strategic

  pub opponents_found : (r : ℕ) → r < 64 → ReplyFor b i left right ranks p m r → RowReply b i p m r
  opponents_found r small found = record {
    table = X;
    is_table = ready_decided valid inside strategic ready;
    loses = unclaimed_opponents (arena_of b i) (valid_proper b valid) X (objective_of b i) (row_facts valid inside strategic ready) p fits
        (λ claim. unclaimed (transport (sym (claims_by (arena_of b i) X (L.kind b i) left right p ∙ retold_claims b i X p row_told)) claim));
    reply = reply_by_plays (arena_of b i) (valid_proper b valid) X (objective_of b i) (row_facts valid inside strategic ready) p fits m r allowed
        (retold_reply (arena_of b i) (valid_proper b valid) X p fits m allowed r row_told (found X.move));
    small = small;
  }
