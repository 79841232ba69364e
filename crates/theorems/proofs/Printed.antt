-- A page is read back, and only pages are read; so what is printed says which fields were printed.
use Prim.Native.Nat.{ℕ, ◌+◌}
use mathlib.Core.Bool.{true, false}
use mathlib.Core.List.{List, [], ◌∷◌, ◌++◌, map, append_assoc, append-nil}
use mathlib.Core.Option.{Option, none, some}
use mathlib.Core.Path.{◌≡◌, refl, sym, ap, ◌∙◌}
use native.Mathlib.Omega.{arith}
use borrow.Author.Tests.{eqb-true}
use lib.ListN.{length, length-append, drop_of_length-le}
use Rattle.meaning.specs.declared.StringState.{StringState}
use Rattle.meaning.specs.declared.StringState.TheVariants.{Outside, Inside, Escaped}
use Rattle.meaning.specs.Base.{pick, nil?, same, split, cut}
use Rattle.meaning.specs.Space.{blank}
use Rattle.meaning.specs.Quote.{state_after, equals_outside}
use Rattle.meaning.specs.Values.{string_of}
use Rattle.meaning.specs.Quoting.{inner, quoted}
use Rattle.meaning.specs.Print.{Field, shown, Line, spaced, unended, page}
use Rattle.laws.specs.Cases.{on, never}
use Rattle.laws.specs.Never.{NonEmpty}
use Rattle.laws.specs.Order.{same_eq}
use Rattle.laws.specs.Segments.{Without}
use Rattle.laws.specs.Quoted.{unquote}
use Rattle.theorems.proofs.Joined.{join_by, join_cons, AllUnparted, split_joined, joined_split, AllWithout, cut_joined, joined_cut}
use Rattle.theorems.proofs.Pieces.{piece}
use Rattle.theorems.specs.PageReader.{and_then, each, candidate, read_field, read_line, read_lines, read_page}
use Rattle.theorems.specs.Printed.{PageReadsBack, LineReadsBack, PageReaderTakesPagesOnly, LineReaderTakesLinesOnly, LinesPrintApart, PagesPrintApart, UnquotedIsTheText, QuotedIsAString, EqualListingsHaveEqualLines}

-- ---- what is read was read in parts

none_never : {X : Type 0} {G : Type 0} {x : X} → none ≡ some x → G
none_never e = let z : ◌≡◌ {A = ℕ} 0 1 = cc in absurd (omega arith)

then_some : {X Y : Type 0} (o : Option X) (f : X → Option Y) (y : Y) → and_then o f ≡ some y → (x : X) × (o ≡ some x) × (f x ≡ some y)
then_some none f y e = none_never e
then_some (some x) f y e = (x, refl, e)

nil_is : (s : List ℕ) → nil? s ≡ true → s ≡ []
nil_is [] e = refl
nil_is (b ∷ s) e = never e refl

-- ---- a line

-- a line is its printed fields with spaces between them
unended_joined : (l : Line) → unended l ≡ join_by 32 (map shown l)
unended_joined [] = refl
unended_joined (f ∷ []) = append-nil (shown f)
unended_joined (f ∷ g ∷ fs) = ap (λ (s : List ℕ). shown f ++ (32 ∷ s)) (unended_joined (g ∷ fs))

fields_unparted : (l : Line) → AllUnparted Outside state_after (equals_outside 32) 32 (map shown l)
fields_unparted [] = tt
fields_unparted (f ∷ fs) = ((piece f).one, fields_unparted fs)

fields_read : (l : Line) → each read_field (map shown l) ≡ some l
fields_read [] = refl
fields_read (f ∷ fs) = rw ((piece f).read, fields_read fs)

append_some : (s t : List ℕ) → nil? s ≡ false → nil? (s ++ t) ≡ false
append_some [] t e = never {b = true} refl e
append_some (b ∷ s) t e = refl

pub line_reads_back : LineReadsBack
unfolding read_line
line_reads_back [] = refl
line_reads_back (f ∷ fs) =
    rw (append_some (shown f) (spaced fs) (piece f).some_bytes)
    (ap (λ (s : List ℕ). each read_field (split Outside state_after (equals_outside 32) Outside s)) (unended_joined (f ∷ fs))
    ∙ ap (each read_field) (split_joined Outside state_after (equals_outside 32) 32 (map shown (f ∷ fs)) tt (fields_unparted (f ∷ fs))) ∙ fields_read (f ∷ fs))

field_only : (p : List ℕ) (f : Field) → read_field p ≡ some f → shown f ≡ p
unfolding read_field
field_only p f e =
    let k = then_some (candidate p) (λ f. pick (same (shown f) p) (some f) none) f e in
    on (same (shown k.0) p)
    (λ t. let g : k.0 ≡ f = cc (rw t at k.2) in ap shown (sym g) ∙ same_eq (shown k.0) p t)
    (λ t. none_never (rw t at k.2))

fields_only : (ps : List (List ℕ)) (l : Line) → each read_field ps ≡ some l → map shown l ≡ ps
fields_only [] l e = let g : [] ≡ l = cc in ap (map shown) (sym g)
fields_only (p ∷ ps) l e =
    let j = then_some (read_field p) _ l e in
    let k = then_some (each read_field ps) _ l j.2 in
    let g : j.0 ∷ k.0 ≡ l = cc k.2 in
    ap (map shown) (sym g) ∙ rw (field_only p j.0 j.1, fields_only ps k.0 k.1)

only_space : (st : StringState) (b : ℕ) → equals_outside 32 st b ≡ true → b ≡ 32
unfolding equals_outside
only_space Outside b e = eqb-true b 32 e
only_space Inside b e = never {b = false} e refl
only_space Escaped b e = never {b = false} e refl

pub lines_only : LineReaderTakesLinesOnly
unfolding read_line
lines_only s l e =
    on (nil? s)
    (λ t. let g : [] ≡ l = cc (rw t at e) in ap unended (sym g) ∙ sym (nil_is s t))
    (λ t. unended_joined l ∙ ap (join_by 32) (fields_only (split Outside state_after (equals_outside 32) Outside s) l (rw t at e))
    ∙ joined_split Outside state_after (equals_outside 32) 32 only_space Outside s)

-- ---- a page

append_unfed : (s t : List ℕ) → Without 10 s → Without 10 t → Without 10 (s ++ t)
append_unfed [] t h k = k
append_unfed (b ∷ s) t h k = (h.0, append_unfed s t h.1 k)

spaced_unfed : (fs : List Field) → Without 10 (spaced fs)
spaced_unfed [] = tt
spaced_unfed (f ∷ fs) = (refl, append_unfed (shown f) (spaced fs) (piece f).unfed (spaced_unfed fs))

unended_unfed : (l : Line) → Without 10 (unended l)
unended_unfed [] = tt
unended_unfed (f ∷ fs) = append_unfed (shown f) (spaced fs) (piece f).unfed (spaced_unfed fs)

-- the pieces of a page: its lines, and nothing after the last
abbrev pieces : List Line → List (List ℕ)
pieces ls = map unended ls ++ ([] ∷ [])

pieces_some : (ls : List Line) → NonEmpty (pieces ls)
pieces_some [] = tt
pieces_some (l ∷ ls) = tt

page_joined : (ls : List Line) → page ls ≡ join_by 10 (pieces ls)
page_joined [] = refl
page_joined (l ∷ ls) =
    append_assoc (unended l) (10 ∷ []) (page ls) ∙ ap (λ (s : List ℕ). unended l ++ (10 ∷ s)) (page_joined ls)
    ∙ sym (join_cons 10 (unended l) (pieces ls) (pieces_some ls))

pieces_unfed : (ls : List Line) → AllWithout 10 (pieces ls)
pieces_unfed [] = (tt, tt)
pieces_unfed (l ∷ ls) = (unended_unfed l, pieces_unfed ls)

pieces_read : (ls : List Line) → read_lines (pieces ls) ≡ some ls
pieces_read [] = refl
pieces_read (l ∷ []) = rw (line_reads_back l)
pieces_read (l ∷ m ∷ ls) = rw (line_reads_back l, pieces_read (m ∷ ls))

pub page_reads_back : PageReadsBack
unfolding read_page
page_reads_back ls =
    ap (λ (s : List ℕ). read_lines (cut 10 s)) (page_joined ls) ∙ ap read_lines (cut_joined 10 (pieces ls) (pieces_some ls) (pieces_unfed ls)) ∙ pieces_read ls

pieces_only : (ps : List (List ℕ)) (ls : List Line) → read_lines ps ≡ some ls → pieces ls ≡ ps
pieces_only [] ls e = none_never e
pieces_only (p ∷ []) ls e =
    on (nil? p)
    (λ t. let g : [] ≡ ls = cc (rw t at e) in ap pieces (sym g) ∙ ap (λ (s : List ℕ). s ∷ []) (sym (nil_is p t)))
    (λ t. none_never (rw t at e))
pieces_only (p ∷ q ∷ ps) ls e =
    let j = then_some (read_line p) _ ls e in
    let k = then_some (read_lines (q ∷ ps)) _ ls j.2 in
    let g : j.0 ∷ k.0 ≡ ls = cc k.2 in
    ap pieces (sym g) ∙ rw (lines_only p j.0 j.1, pieces_only (q ∷ ps) k.0 k.1)

pub pages_only : PageReaderTakesPagesOnly
unfolding read_page
pages_only s ls e = page_joined ls ∙ ap (join_by 10) (pieces_only (cut 10 s) ls e) ∙ joined_cut 10 s

-- ---- what prints alike is alike

pub pages_apart : PagesPrintApart
pages_apart a b e = let g : some a ≡ some b = sym (page_reads_back a) ∙ ap read_page e ∙ page_reads_back b in cc

pub lines_apart : LinesPrintApart
lines_apart a b e = let g : a ∷ [] ≡ b ∷ [] = pages_apart (a ∷ []) (b ∷ []) (ap (λ (s : List ℕ). s ++ []) e) in cc

pub equal_lines : EqualListingsHaveEqualLines
equal_lines store tree out name text l store' tree' out' name' text' m h k e = pages_apart l.lines m.lines e

-- ---- the old mode's strings

pub unquoted : UnquotedIsTheText
unquoted = unquote

nothing_blank : blank [] ≡ true
unfolding blank
nothing_blank = refl

pub quoted_string : QuotedIsAString
unfolding string_of quoted
quoted_string s =
    rw (unquote s [], drop_of_length-le (inner s ++ (34 ∷ [])) {i = length (inner s) + 1} (rw length-append (omega arith)), nothing_blank)
