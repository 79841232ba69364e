-- What is handed out of a scan: its counts, and its state by a number.
use Prim.Native.Nat.{ℕ}
use mathlib.Core.Path.{◌≡◌}
use Rattle.meaning.specs.declared.Scan.{Scan}
use Rattle.host.specs.declared.Scanned.{Scanned}
use Rattle.host.specs.Text.{state_number, scanned}

pub scan_out : (c d : Scan) (n : ℕ) → c ≡ d → n ≡ state_number c.state
    → ◌≡◌ {A = Scanned} (record { state = n; opens = c.opens; closes = c.closes }) (scanned d)
scan_out c d n e f = rw (f, e)
