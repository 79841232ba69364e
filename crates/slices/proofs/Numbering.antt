-- Bytes laid over a part of a room are stored there.
use Prim.Native.Nat.{ℕ, ◌+◌, ◌-◌}
use borrow.Rule.Slice.PartMut.{put_mid}
use mathlib.Core.List.{List}
use mathlib.Core.Path.{◌≡◌}
use native.Mathlib.Omega.{arith}
use lib.ListN.{length}
use lib.Seq.{drop-drop}
use Rattle.laws.specs.Stored.{stored}

pub laid : (s bytes : List ℕ) (at k : ℕ) → length bytes ≡ k → put_mid at (at + k - at) s bytes ≡ stored s at bytes
unfolding stored
laid s bytes at k h =
    let e : at + k - at ≡ length bytes = omega arith in
    rw (e, drop-drop (length bytes) at s)
