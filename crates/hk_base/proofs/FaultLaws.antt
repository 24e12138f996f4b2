-- Counts of faults over several calls.
use Rattle.std.proofs.Common.{ℕ, arith, inl, inr}
use Rattle.hk_base.specs.Hosts.{NeverFell, Rose}

pub NeverFell-same : (n : ℕ) → NeverFell n n
NeverFell-same n = record { kept = omega arith; fits = omega arith }

pub NeverFell-then : (a b c : ℕ) → NeverFell a b → NeverFell b c → NeverFell a c
NeverFell-then a b c first second =
    let kept_first = first.kept in
    let kept_second = second.kept in
    let fits_first = first.fits in
    let fits_second = second.fits in
    record { kept = omega arith; fits = omega arith }

-- a count that rose in the first of two calls rose in both
pub Rose-then : (a b c : ℕ) → Rose a b → NeverFell b c → Rose a c
Rose-then a b c (inl higher) second = let kept = second.kept in inl (omega arith)
Rose-then a b c (inr top) second =
    let kept = second.kept in
    let fits = second.fits in
    inr (omega arith)

-- a count that rose in the second of two calls rose in both
pub then-Rose : (a b c : ℕ) → NeverFell a b → Rose b c → Rose a c
then-Rose a b c first (inl higher) = let kept = first.kept in inl (omega arith)
then-Rose a b c first (inr top) = inr top
