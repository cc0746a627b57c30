-- `word` copies the bytes of a word to their place.
use mathlib.Core.List.{append_assoc}
use mathlib.Core.Path.{◌≡◌, refl}
use Prim.Native.Nat.{◌+◌, ◌-◌}
use native.Mathlib.Omega.{arith}
use lib.ListN.{length}
use Rattle.std.proofs.lemmas.Slice.{take-put_mid, drop-put_mid}
use Rattle.text.proofs.output.Output.word.Goals as goal

pub returns-clause-adds : goal.returns-clause-adds
returns-clause-adds c =
    let at = c.args.self.now.len in
    let room = c.requires in
    let len : length c.copy_from_slice.new.self ≡ length c.args.w.now = omega (arith, c.copy_from_slice.ensures.len) in
    let begun = take-put_mid at (at + length c.args.w.now - at) c.args.self.now.text.now c.copy_from_slice.new.self (at + length c.args.w.now) (omega arith) (omega arith) in
    (λ rest. rw (begun, c.copy_from_slice.ensures.after, append_assoc) refl, refl)

pub returns-clause-untouched : goal.returns-clause-untouched
returns-clause-untouched c =
    let at = c.args.self.now.len in
    let room = c.requires in
    let len : length c.copy_from_slice.new.self ≡ length c.args.w.now = omega (arith, c.copy_from_slice.ensures.len) in
    drop-put_mid at (at + length c.args.w.now - at) c.args.self.now.text.now c.copy_from_slice.new.self (at + length c.args.w.now) (omega arith) (omega arith) (omega arith)
