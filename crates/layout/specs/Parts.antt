-- Level 2 of a layout: the marks of partitions, and a partition by its name.
use Rattle.std.specs.Prelude.{ℕ, suc, ◌+◌, ◌%◌, ◌≤◌, Bool, List, [], ◌∷◌, ◌≡◌, refl, eqb, ltb, length, map, Option, None, Some, is_some, unwrap_or, Result, Ok, Err}
use Rattle.std.specs.List.{position, position_or_len}
use Rattle.std.proofs.Common.{sym, ◌∙◌, arith, ne_eqb, lt-ltb, ltb-false}
use Rattle.std.proofs.Math.Dec.{leb-suc-suc}
use Rattle.meaning.specs.Base.{pick, nil?, same}
use Rattle.meaning.specs.declared.Refused.{Refused}
use Rattle.meaning.specs.declared.Refused.TheVariants.{EmptyPartitionName, NoSize, OffsetOffBlock, SizeOffBlock, Overlap, PastAddresses}
use Rattle.meaning.specs.Rules.{name_of}
use Rattle.meaning.specs.Schema as schemas
use Rattle.meaning.specs.Verdict.{among}
use Rattle.laws.specs.Cases.{on}
use Rattle.schema.specs.declared.Partition.{Partition}
use Rattle.schema.specs.declared.Text.{Text}
use Rattle.schema.specs.declared.Text.TheVariants as texts
use Rattle.schema.specs.Words.{word}
use Rattle.schema.specs.Texts.{clip}
use Rattle.turns.specs.declared.Mark.{Mark}

-- a partition's name lies in some bytes
abbrev pub part_name : List ℕ → Partition → List ℕ
part_name bytes p = clip p.from p.len bytes

abbrev pub part_meant : List ℕ → Partition → schemas.Partition
part_meant bytes p = record { name = part_name bytes p; offset = p.offset; size = p.size; locked = p.locked }

abbrev pub end_of : Partition → ℕ
end_of p = p.offset + p.size

-- 42
abbrev pub name_checked : List ℕ → Partition → Result (Unit {0}) Refused
name_checked bytes p = pick (nil? (part_name bytes p)) (Err EmptyPartitionName) (Ok tt)

-- 44 to 48
unfoldable pub span_checked : ℕ → ℕ → Partition → Result (Unit {0}) Refused
span_checked block end p =
    pick (eqb p.size 0) (Err NoSize)
    (pick (eqb (p.offset % block) 0)
    (pick (eqb (p.size % block) 0) (pick (ltb p.offset end) (Err Overlap) (pick (ltb (end_of p) 4294967296) (Ok tt) (Err PastAddresses))) (Err SizeOffBlock)) (Err OffsetOffBlock))

abbrev pub mark_of : List ℕ → ℕ → ℕ → Partition → Mark Refused
mark_of bytes block end p = record { from = p.from; len = p.len; early = name_checked bytes p; late = span_checked block end p }

abbrev pub marks_from : List ℕ → ℕ → ℕ → List Partition → List (Mark Refused)
marks_from bytes block end [] = []
marks_from bytes block end (p ∷ ps) = mark_of bytes block end p ∷ marks_from bytes block (end_of p) ps

-- no more than 32 partitions, on blocks of some size
pub record OnBlocks (count block : ℕ) : Type 0 where
  pub fits : count ≤ 32
  pub some : 1 ≤ block

-- ---- a name among names

-- how many stand before the first that is the same
abbrev pub rank : List ℕ → List (List ℕ) → ℕ
rank x [] = 0
rank x (y ∷ ys) = pick (same x y) 0 (suc (rank x ys))

pub among_rank : (x : List ℕ) (ys : List (List ℕ)) → among x ys ≡ ltb (rank x ys) (length ys)
among_rank x [] = refl
among_rank x (y ∷ ys) =
    on (same x y)
    (λ e. rw e (sym (lt-ltb 0 (suc (length ys)) (omega arith))))
    (λ e. rw e (among_rank x ys ∙ sym (leb-suc-suc (suc (rank x ys)) (length ys))))

pub rank_high : (x : List ℕ) (ys : List (List ℕ)) → rank x ys ≤ length ys
rank_high x [] = omega arith
rank_high x (y ∷ ys) = on (same x y) (λ e. rw e (omega arith)) (λ e. rw e (omega (arith, rank_high x ys)))

-- the place of the first among n; none where as many stand before it
abbrev pub placed : ℕ → ℕ → Option ℕ
placed n at = pick (ltb at n) (Some at) None

-- whether it is the first of all; none is as many as there are
abbrev pub is_first : ℕ → Option ℕ → Bool
is_first n at = eqb (unwrap_or at n) 0

pub placed_some : (n at : ℕ) → is_some (placed n at) ≡ ltb at n
placed_some n at = on (ltb at n) (λ e. rw e) (λ e. rw e)

pub rank_first : (x y : List ℕ) (ys : List (List ℕ)) → eqb (rank x (y ∷ ys)) 0 ≡ same x y
rank_first x y ys = on (same x y) (λ e. rw e) (λ e. rw e (ne_eqb (suc (rank x ys)) 0 (λ h. omega arith)))

-- the same of the place
pub placed_first : (x y : List ℕ) (ys : List (List ℕ)) → is_first (length (y ∷ ys)) (placed (length (y ∷ ys)) (rank x (y ∷ ys))) ≡ same x y
placed_first x y ys =
    on (same x y)
    (λ e. rw (e, lt-ltb 0 (length (y ∷ ys)) (omega arith)))
    (λ e.
    on (ltb (rank x (y ∷ ys)) (length (y ∷ ys)))
    (λ h. rw (h, e) (ne_eqb (suc (rank x ys)) 0 (λ z. omega arith)))
    (λ h. rw (h, e) (ne_eqb (length (y ∷ ys)) 0 (λ z. omega arith))))

abbrev pub bears : List ℕ → List ℕ → Partition → Bool
bears name bytes p = same name (part_name bytes p)

rank_is : (name bytes : List ℕ) (xs : List Partition) → rank name (map (part_name bytes) xs) ≡ position_or_len (bears name bytes) xs
rank_is name bytes [] = refl
rank_is name bytes (x ∷ xs) = on (bears name bytes x) (λ e. rw e) (λ e. rw e (omega (arith, rank_is name bytes xs)))

pub position_placed : (name bytes : List ℕ) (xs : List Partition) (r : Option ℕ) → r ≡ position (bears name bytes) xs → r ≡ placed (length xs) (rank name (map (part_name bytes) xs))
position_placed name bytes xs r e =
    let n = position_or_len (bears name bytes) xs in
    rw (rank_is name bytes xs) (on (ltb n (length xs)) (λ h. rw h (rw h at e)) (λ h. rw h (rw h at e)))

-- ---- the partition that a text names

-- a reference is cut at its first `;` and trimmed; a name is taken as it is
abbrev pub name_in : Bool → List ℕ → List ℕ
name_in cut s = pick cut (name_of s) s

-- which of some names it is; as many as there are where it is none
abbrev pub aim : Bool → List ℕ → List (List ℕ) → Text → ℕ
aim cut store parts texts.Absent = length parts
aim cut store parts (texts.Stored from len) = rank (name_in cut (clip from len store)) parts
aim cut store parts texts.Lent = length parts
aim cut store parts (texts.Fixed w) = rank (name_in cut (word w)) parts
aim cut store parts (texts.WithAic from len) = length parts

pub aim_high : (cut : Bool) (store : List ℕ) (parts : List (List ℕ)) (t : Text) → aim cut store parts t ≤ length parts
aim_high cut store parts texts.Absent = omega arith
aim_high cut store parts (texts.Stored from len) = rank_high (name_in cut (clip from len store)) parts
aim_high cut store parts texts.Lent = omega arith
aim_high cut store parts (texts.Fixed w) = rank_high (name_in cut (word w)) parts
aim_high cut store parts (texts.WithAic from len) = omega arith

-- the place tells which it is
pub aim_placed : (cut : Bool) (store : List ℕ) (parts : List (List ℕ)) (t : Text) → unwrap_or (placed (length parts) (aim cut store parts t)) (length parts) ≡ aim cut store parts t
aim_placed cut store parts t =
    let a : ℕ = aim cut store parts t in
    on (ltb a (length parts)) (λ e. rw e) (λ e. rw e (omega (arith, ltb-false a (length parts) e, aim_high cut store parts t)))
