-- Two rooms as one value: whether they hold the values, by what opening them says.
use Rattle.std.proofs.Common.{ℕ, ◌/◌, ◌≤◌, ◌≡◌, refl, sym, arith, List, length, Bool, true, false, le-ltb}
use Rattle.laws.specs.Cases.{on}
use Rattle.tree.specs.Doors.{Rooms}
use Rattle.parse.specs.Views.{holds_values}
use Rattle.parse.proofs.Judging.{sound_rooms}

module _ (room : List ℕ) (made : ℕ) where
  pub held : Rooms room made → true ≡ holds_values room made
  unfolding holds_values
  held h =
      let a : made ≤ length room / 32 = omega (arith, h.fits.fits) in
      rw (le-ltb (length room / 32) made a, le-ltb 65000 made h.low)

  pub shut : (Rooms room made → ⊥) → false ≡ holds_values room made
  shut n =
      let sound : holds_values room made ≡ true → Rooms room made = λ e. sound_rooms room made true (sym e) refl in
      on (holds_values room made) (λ e. absurd (n (sound e))) (λ e. sym e)
