use Prim.Native.Nat.{ℕ, ◌<◌, ◌≤◌}
use borrow.Author.Rules.{rules}
use mathlib.Core.Path.{◌≡◌}
use lib.ListN.{length, get_or}
use Rattle.chars.proofs.Ends.{leads}
use Rattle.chars.proofs.after_spaces.Goals as goal

pub returns : goal.returns
returns c =
    let h : c.unwrap_or.result ≤ length c.args.s.now = search rules in
    let e : (k : ℕ) → k < c.unwrap_or.result → get_or c.args.s.now k 0 ≡ 32 = search rules in
    leads c.args.s.now _ h e
