-- `number` reads a number of one digit, or hands two digits on.
use Prim.Native.Nat.{◌+◌, ◌-◌}
use native.Mathlib.Omega.{arith}
use Rattle.block.proofs.Decide as D
use Rattle.text.proofs.Decimals.{within}
use Rattle.tokens.proofs.NumbersAt.{one, two, three, number_missing, found_one}
use Rattle.tokens.proofs.numeral.number.Goals as goal

pub returns-then-not-is_digit-clause-text_value : goal.returns-then-not-is_digit-clause-text_value
returns-then-not-is_digit-clause-text_value c = let other = D.falsity c.is_digit.ensures c.if-not-is_digit.true in number_missing c.args.sep c.args.text.now c.args.at
    (λ n h s.
    elim s [
      | one k x y ↦ other (omega arith)
      | two l k x y z ↦ other (omega arith)
      | three l x y z w ↦ other (omega arith)
    ])

pub returns-then-b-sep-clause-text_value : goal.returns-then-b-sep-clause-text_value
returns-then-b-sep-clause-text_value c = let da = D.truth c.is_digit.ensures c.if-not-is_digit.false in
    let last = within c.args.text.now (c.args.at + 1) (omega arith) in
    found_one c.args.sep c.args.text.now c.args.at (omega arith) (omega arith) (c.byte-a.result - 48) (omega arith) (omega arith) (omega arith)

pub returns-then-a-eq-ZERO-clause-text_value : goal.returns-then-a-eq-ZERO-clause-text_value
returns-then-a-eq-ZERO-clause-text_value c = let da = D.truth c.is_digit.ensures c.if-not-is_digit.false in number_missing c.args.sep c.args.text.now c.args.at
    (λ n h s.
    elim s [
      | one k x y ↦ omega arith
      | two l k x y z ↦ omega arith
      | three l x y z w ↦ omega arith
    ])

pub returns-then-not-is_digit-2-clause-text_value : goal.returns-then-not-is_digit-2-clause-text_value
returns-then-not-is_digit-2-clause-text_value c = let da = D.truth c.is_digit.ensures c.if-not-is_digit.false in
    let other = D.falsity c.is_digit-2.ensures c.if-not-is_digit-2.true in number_missing c.args.sep c.args.text.now c.args.at
    (λ n h s.
    elim s [
      | one k x y ↦ omega arith
      | two l k x y z ↦ other (omega arith)
      | three l x y z w ↦ other (omega arith)
    ])
