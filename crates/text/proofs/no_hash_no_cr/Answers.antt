use Rattle.std.proofs.Common.{rules, ◌≡◌, bit_or, fold}
use Rattle.std.proofs.iter.runs.Made.{chains}
use Rattle.text.specs.Laid.{changed}
use Rattle.text.proofs.Standing.{fold_bare}
use Rattle.text.proofs.no_hash_no_cr.Goals as goal

pub returns : goal.returns
returns c =
    let e : c.fold.result ≡ fold (λ m b. bit_or m (changed b)) 0 c.args.s.now = search (rules, chains) in
    rw e (fold_bare c.args.s.now)
