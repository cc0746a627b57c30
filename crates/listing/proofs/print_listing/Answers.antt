-- `print_listing` writes the front of the buffer that the listing fills.
use mathlib.Core.Path.{sym}
use native.Mathlib.Omega.{arith}
use lib.Seq.{length-take-le}
use Rattle.report.proofs.Printing.{listing_fits}
use Rattle.listing.proofs.print_listing.Goals as goal

-- the length that was found
pub slice_bounds-out-end : goal.slice_bounds-out-end
slice_bounds-out-end g c = omega (arith, listing_fits _ _ _ _ _ _ _ c.in-Ok.n (rw c.in-Ok.is at c.listing.ensures), c.listing.auto.out)

pub slice_bounds-print-end : goal.slice_bounds-print-end
slice_bounds-print-end g c = sym (length-take-le c.in-Ok.n c.listing.new.out
    (omega (arith, listing_fits _ _ _ _ _ _ _ c.in-Ok.n (rw c.in-Ok.is at c.listing.ensures), c.listing.auto.out)))
