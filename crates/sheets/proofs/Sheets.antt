-- The words of a worksheet: each stands for what the team's move call answers, which is one answer only. Assumes nothing.
use mathlib.Core.List.{List, [], ◌∷◌, append_assoc}
use mathlib.Core.Logic.{inl, inr}
use mathlib.Core.Path.{◌≡◌}
use Prim.Native.Nat.{ℕ, ◌<◌}
use native.Mathlib.Omega.{arith}
use lib.ListN.{length, replicate}
use Rattle.block.specs.Layout as L
use Rattle.block.specs.Layout.{Block}
use Rattle.block.specs.Inner.Valid.{Valid}
use Rattle.block.specs.Refusal.{◌when◌, Tried, Gives, value, Answers}
use Rattle.block.specs.declared.refusal.Refusal.TheVariants as refusal
use Rattle.block.specs.Refusal.{Answer}
use Rattle.block.proofs.Passing.{stable}
use Rattle.block.proofs.Refusals.{past, Fails, after, apart, one_answer, room_cleared, not_length}
use Rattle.game.specs.Position.{position}
use Rattle.game.specs.Model.{arena_of, objective_of}
use Rattle.game.specs.Demand.{RowMove}
use Rattle.game.proofs.Blocks.Passing.{valid_proper}
use Rattle.game.proofs.Whole.Demand.{one_move}
use Rattle.turns.specs.Sizes.{room_bytes, rank_end}
use Rattle.admission.specs.Admission.{row_rules, NoPosition, position_rules}
use Rattle.admission.proofs.Admitting.{row_admitted}
use Rattle.lookup.specs.Calls.{side_rules, MoveCall}
use Rattle.sheets.specs.Worksheet.{words_bytes, state_in, stocks_in, sheet_rules, word_for, Single}
use Rattle.sheets.specs.Inner.Sheets.{place_rules, AnsweredAt}
use Rattle.admission.proofs.Admitting.{position_admitted}

-- a move or a refusal fits a word
pub word_small : {b : Block} {i : ℕ} {list : List ℕ} {k : ℕ} {a : Answer} → AnsweredAt b i list k a → word_for a < rank_end
word_small {b} {i} {list} {k} {a} answered = go answered.answer.tried
  where
    move : (a : Answer) → Gives (RowMove b i (position (state_in list k) (stocks_in list k))) a → word_for a < rank_end
    move a (value h) = omega (arith, h.small)

    go : Tried (place_rules b i (state_in list k) (stocks_in list k)) (Gives (RowMove b i (position (state_in list k) (stocks_in list k)))) a → word_for a < rank_end
    go (inl (_, e)) = rw e (omega arith)
    go (inr (_, inl (_, e))) = rw e (omega arith)
    go (inr (_, inr (_, h))) = move a h

-- what is answered at a position of an admitted row is what the team's move call answers, lent a room of the right length
module _ (b : Block) (i : ℕ) (row : Fails (row_rules b i)) (room room' : List ℕ) (long : length room ≡ room_bytes) (zeros : room' ≡ replicate (length room) 0) (s : ℕ) (stocks : List ℕ) where
  single_call : (a : Answer) → Answers (place_rules b i s stocks) (RowMove b i (position s stocks)) a → MoveCall b i s stocks room room' a
  single_call a answered = record {
    answer = past (λ h. h long) (rw (append_assoc (row_rules b i) (refusal.Position when NoPosition b i s stocks ∷ []) (side_rules b i (position s stocks))) (after (row_rules b i) row answered));
    room_after = room_cleared (not_length answered (omega arith, (omega arith, tt))) zeros;
  }

  pub single : (a : Answer) (w : ℕ) → Answers (place_rules b i s stocks) (RowMove b i (position s stocks)) a → w ≡ word_for a → Single b i s stocks room room' w
  single a w answered is = record {
    single = a;
    call = single_call a answered;
    only = λ a' room'' call. one_answer call.answer (single_call a answered).answer (λ (_, fails).
        let (valid, (_, fits)) = position_admitted b i s stocks (apart (position_rules b i s stocks) (side_rules b i (position s stocks)) fails).0 in
        one_move (arena_of b i) (valid_proper b valid) (objective_of b i) (position s stocks) fits);
    word = is;
  }

-- a call that is admitted has a block that passes, a strategic row, words for the list's count, and a room
pub sheet_admitted : (b : Block) (i list words room : ℕ) → Fails (sheet_rules b i list words room) → Fails (row_rules b i) × (Valid b × (((i < L.rows b) × L.Strategic (L.kind b i)) × ((words ≡ words_bytes list) × (room ≡ room_bytes))))
sheet_admitted b i list words room (_, (_, (no_words, (no_room, row)))) =
    let (valid, chosen) = row_admitted b i row in
    (row, (valid, (chosen, (stable words (words_bytes list) no_words, stable room room_bytes no_room))))
