-- `more` reads the rest of a number of two or three digits.
use Prim.Native.Nat.{◌+◌, ◌*◌, ◌-◌}
use native.Mathlib.Omega.{arith}
use Rattle.block.proofs.Decide as D
use Rattle.text.proofs.Decimals.{within}
use Rattle.tokens.proofs.NumbersAt.{one, two, three, number_missing, found_two, found_three}
use Rattle.tokens.proofs.numeral.more.Goals as goal

pub returns-then-c-sep-clause-text_value : goal.returns-then-c-sep-clause-text_value
returns-then-c-sep-clause-text_value c = let last = within c.args.text.now (c.args.at + 2) (omega arith) in
    found_two c.args.sep c.args.text.now c.args.at (omega arith) (omega arith) c.args.tens (omega arith) (omega arith) (omega arith) (omega arith) (omega arith)

pub returns-then-not-is_digit-clause-text_value : goal.returns-then-not-is_digit-clause-text_value
returns-then-not-is_digit-clause-text_value c = let other = D.falsity c.is_digit.ensures c.if-not-is_digit.true in number_missing c.args.sep c.args.text.now c.args.at
    (λ n h s.
    elim s [
      | one k x y ↦ omega arith
      | two l k x y z ↦ omega arith
      | three l x y z w ↦ other (omega arith)
    ])

pub returns-then-n-ge-NUMBERS-clause-text_value : goal.returns-then-n-ge-NUMBERS-clause-text_value
returns-then-n-ge-NUMBERS-clause-text_value c = let d = D.truth c.is_digit.ensures c.if-not-is_digit.false in number_missing c.args.sep c.args.text.now c.args.at
    (λ n h s.
    elim s [
      | one k x y ↦ omega arith
      | two l k x y z ↦ omega arith
      | three l x y z w ↦ omega arith
    ])

pub returns-then-byte-sep-clause-text_value : goal.returns-then-byte-sep-clause-text_value
returns-then-byte-sep-clause-text_value c = let d = D.truth c.is_digit.ensures c.if-not-is_digit.false in
    let last = within c.args.text.now (c.args.at + 3) (omega arith) in
    found_three c.args.sep c.args.text.now c.args.at (omega arith) (omega arith) (10 * c.args.tens + (c.byte-c.result - 48)) (omega arith) (omega arith) (omega arith) (omega arith) (omega arith) (omega arith)

pub returns-clause-text_value : goal.returns-clause-text_value
returns-clause-text_value c = let d = D.truth c.is_digit.ensures c.if-not-is_digit.false in number_missing c.args.sep c.args.text.now c.args.at
    (λ n h s.
    elim s [
      | one k x y ↦ omega arith
      | two l k x y z ↦ omega arith
      | three l x y z w ↦ omega arith
    ])
