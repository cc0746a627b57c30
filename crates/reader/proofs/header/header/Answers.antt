-- `header` reads the sizes one after the other and then the kinds; each of the definitions below is what is left of the line's format.
use mathlib.Core.List.{List}
use mathlib.Core.Path.{◌∙◌}
use Prim.Native.Nat.{ℕ}
use Rattle.block.specs.Layout.{max_agents, max_resources, max_states, max_propositions, max_rows}
use Rattle.text.specs.declared.sizes.Edition.{Edition}
use Rattle.text.specs.declared.sizes.Sizes.{Sizes}
use Rattle.text.specs.Numeral.{comma}
use Rattle.text.specs.Format.{Format}
use Rattle.text.specs.Job as J
use Rattle.scan.proofs.Reading.{stopped_with}
use Rattle.reader.proofs.header.header.Goals as goal

module _ (e : Edition) (f : Sizes → Format) where
  abbrev sized : ℕ → ℕ → ℕ → ℕ → ℕ → List ℕ → Format
  sized n r m p w kinds = f (record { edition = e; agents = n; resources = r; states = m; propositions = p; rows = w; kinds = kinds })

  abbrev from_kinds : ℕ → ℕ → ℕ → ℕ → ℕ → Format
  from_kinds n r m p w = J.resource_fields e r 0 J.no_kinds (sized n r m p w)

  abbrev from_rows : ℕ → ℕ → ℕ → ℕ → Format
  from_rows n r m p = J.size (J.sizes_end e) 4 max_rows (from_kinds n r m p)

  abbrev from_propositions : ℕ → ℕ → ℕ → Format
  from_propositions n r m = J.size comma 3 max_propositions (from_rows n r m)

  abbrev from_states : ℕ → ℕ → Format
  from_states n r = J.size comma 2 max_states (from_propositions n r)

  abbrev from_resources : ℕ → Format
  from_resources n = J.size comma 1 max_resources (from_states n)

  abbrev from_agents : Format
  from_agents = J.size comma 0 max_agents from_resources

pub returns-in_err-named-clause-text_value : goal.returns-in_err-named-clause-text_value
unfolding J.header_line
returns-in_err-named-clause-text_value c =
    λ f. c.in_err-named.ensures.text_value (from_agents c.args.e f) c.args.job.now
    ∙ stopped_with _ _ _ _ c.from_residual.ensures.1

pub returns-in_err-n-clause-text_value : goal.returns-in_err-n-clause-text_value
unfolding J.header_line
returns-in_err-n-clause-text_value c =
    λ f. c.in_ok-named.ensures.text_value (from_agents c.args.e f) c.args.job.now
    ∙ c.in_err-n.ensures.by_index (from_resources c.args.e f)
    ∙ stopped_with _ _ _ _ c.from_residual-in_err-n.ensures.1

pub returns-in_err-r-clause-text_value : goal.returns-in_err-r-clause-text_value
unfolding J.header_line
returns-in_err-r-clause-text_value c =
    λ f. c.in_ok-named.ensures.text_value (from_agents c.args.e f) c.args.job.now
    ∙ c.in_ok-n.ensures.by_index (from_resources c.args.e f)
    ∙ c.in_err-r.ensures.by_index (from_states c.args.e f c.in_ok-n.n.value)
    ∙ stopped_with _ _ _ _ c.from_residual-in_err-r.ensures.1

pub returns-in_err-m-clause-text_value : goal.returns-in_err-m-clause-text_value
unfolding J.header_line
returns-in_err-m-clause-text_value c =
    λ f. c.in_ok-named.ensures.text_value (from_agents c.args.e f) c.args.job.now
    ∙ c.in_ok-n.ensures.by_index (from_resources c.args.e f)
    ∙ c.in_ok-r.ensures.by_index (from_states c.args.e f c.in_ok-n.n.value)
    ∙ c.in_err-m.ensures.by_index (from_propositions c.args.e f c.in_ok-n.n.value c.in_ok-r.r.value)
    ∙ stopped_with _ _ _ _ c.from_residual-in_err-m.ensures.1

pub returns-in_err-p-clause-text_value : goal.returns-in_err-p-clause-text_value
unfolding J.header_line
returns-in_err-p-clause-text_value c =
    λ f. c.in_ok-named.ensures.text_value (from_agents c.args.e f) c.args.job.now
    ∙ c.in_ok-n.ensures.by_index (from_resources c.args.e f)
    ∙ c.in_ok-r.ensures.by_index (from_states c.args.e f c.in_ok-n.n.value)
    ∙ c.in_ok-m.ensures.by_index (from_propositions c.args.e f c.in_ok-n.n.value c.in_ok-r.r.value)
    ∙ c.in_err-p.ensures.by_index (from_rows c.args.e f c.in_ok-n.n.value c.in_ok-r.r.value c.in_ok-m.m.value)
    ∙ stopped_with _ _ _ _ c.from_residual-in_err-p.ensures.1

pub returns-in_err-w-clause-text_value : goal.returns-in_err-w-clause-text_value
unfolding J.header_line
returns-in_err-w-clause-text_value c =
    let rows_read = rw (c.from-sep.ensures, c.sizes_end.ensures.0) at c.in_err-w.ensures.by_index in
    λ f. c.in_ok-named.ensures.text_value (from_agents c.args.e f) c.args.job.now
    ∙ c.in_ok-n.ensures.by_index (from_resources c.args.e f)
    ∙ c.in_ok-r.ensures.by_index (from_states c.args.e f c.in_ok-n.n.value)
    ∙ c.in_ok-m.ensures.by_index (from_propositions c.args.e f c.in_ok-n.n.value c.in_ok-r.r.value)
    ∙ c.in_ok-p.ensures.by_index (from_rows c.args.e f c.in_ok-n.n.value c.in_ok-r.r.value c.in_ok-m.m.value)
    ∙ rows_read (from_kinds c.args.e f c.in_ok-n.n.value c.in_ok-r.r.value c.in_ok-m.m.value c.in_ok-p.p.value)
    ∙ stopped_with _ _ _ _ c.from_residual-in_err-w.ensures.1

pub returns-in_err-kinds-clause-text_value : goal.returns-in_err-kinds-clause-text_value
unfolding J.header_line
returns-in_err-kinds-clause-text_value c =
    let rows_read = rw (c.from-sep.ensures, c.sizes_end.ensures.0) at c.in_ok-w.ensures.by_index in
    λ f. c.in_ok-named.ensures.text_value (from_agents c.args.e f) c.args.job.now
    ∙ c.in_ok-n.ensures.by_index (from_resources c.args.e f)
    ∙ c.in_ok-r.ensures.by_index (from_states c.args.e f c.in_ok-n.n.value)
    ∙ c.in_ok-m.ensures.by_index (from_propositions c.args.e f c.in_ok-n.n.value c.in_ok-r.r.value)
    ∙ c.in_ok-p.ensures.by_index (from_rows c.args.e f c.in_ok-n.n.value c.in_ok-r.r.value c.in_ok-m.m.value)
    ∙ rows_read (from_kinds c.args.e f c.in_ok-n.n.value c.in_ok-r.r.value c.in_ok-m.m.value c.in_ok-p.p.value)
    ∙ c.in_err-kinds.ensures.by_index (sized c.args.e f c.in_ok-n.n.value c.in_ok-r.r.value c.in_ok-m.m.value c.in_ok-p.p.value c.in_ok-w.w.value)
    ∙ stopped_with _ _ _ _ c.from_residual-in_err-kinds.ensures.1

pub returns-clause-text_value : goal.returns-clause-text_value
unfolding J.header_line
returns-clause-text_value c =
    let rows_read = rw (c.from-sep.ensures, c.sizes_end.ensures.0) at c.in_ok-w.ensures.by_index in
    λ f. c.in_ok-named.ensures.text_value (from_agents c.args.e f) c.args.job.now
    ∙ c.in_ok-n.ensures.by_index (from_resources c.args.e f)
    ∙ c.in_ok-r.ensures.by_index (from_states c.args.e f c.in_ok-n.n.value)
    ∙ c.in_ok-m.ensures.by_index (from_propositions c.args.e f c.in_ok-n.n.value c.in_ok-r.r.value)
    ∙ c.in_ok-p.ensures.by_index (from_rows c.args.e f c.in_ok-n.n.value c.in_ok-r.r.value c.in_ok-m.m.value)
    ∙ rows_read (from_kinds c.args.e f c.in_ok-n.n.value c.in_ok-r.r.value c.in_ok-m.m.value c.in_ok-p.p.value)
    ∙ c.in_ok-kinds.ensures.by_index (sized c.args.e f c.in_ok-n.n.value c.in_ok-r.r.value c.in_ok-m.m.value c.in_ok-p.p.value c.in_ok-w.w.value)
