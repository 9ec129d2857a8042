-- An event of no kind of the table has no row. Assumes nothing.
use native.Mathlib.Omega.{arith}
use borrow.Author.Tests.{ne_eqb}
use Rattle.event.specs.WellMade.{call_made}
use Rattle.wellmade.proofs.call_made.Goals as goal

pub returns-in_default : goal.returns-in_default
unfolding call_made
returns-in_default c =
    let k = c.args.e.kind in
    let p = c.requires in
    simp (
      ne_eqb k 1 (λ q. omega (arith, p, q)),
      ne_eqb k 2 (λ q. omega (arith, p, q)),
      ne_eqb k 3 (λ q. omega (arith, p, q)),
      ne_eqb k 4 (λ q. grind (arith, p, q)),
      ne_eqb k 5 (λ q. omega (arith, p, q)),
      ne_eqb k 6 (λ q. omega (arith, p, q)),
      ne_eqb k 7 (λ q. omega (arith, p, q)),
      ne_eqb k 8 (λ q. omega (arith, p, q)),
      ne_eqb k 9 (λ q. grind (arith, p, q)),
      ne_eqb k 10 (λ q. omega (arith, p, q)),
      ne_eqb k 11 (λ q. grind (arith, p, q)),
      ne_eqb k 12 (λ q. omega (arith, p, q)),
      ne_eqb k 13 (λ q. omega (arith, p, q)),
      ne_eqb k 14 (λ q. omega (arith, p, q)),
      ne_eqb k 15 (λ q. grind (arith, p, q)),
    )
