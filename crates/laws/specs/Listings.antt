-- An output of the size that is asked for always suffices: no listing is longer.
use Rattle.std.specs.Prelude.{ℕ, suc, ◌+◌, ◌*◌, ◌≤◌, ◌<◌, Bool, true, false, List, [], ◌∷◌, ◌++◌, map, ◌≡◌, refl, ltb, length}
use Rattle.std.proofs.Math.Option.{Option, none, some}
use Rattle.std.proofs.Common.{subst, arith, length-append}
use borrow.Author.Tests.{ltb-false}
use Rattle.meaning.specs.Base.{pick, nil?, or_default}
use Rattle.meaning.specs.declared.Limits.{Limits}
use Rattle.meaning.specs.Limits.{of01}
use Rattle.meaning.specs.Refusal.{accepted}
use Rattle.meaning.specs.Tree.{Table}
use Rattle.meaning.specs.Utf8.{valid}
use Rattle.meaning.specs.Schema.{Chip, Media, Kind, d13x, d21x, spiNor, spiNand, kindApp, kindPbp, kindRaw, chip_word, media_word, kind_word, Partition, Component, Application, Preset}
use Rattle.meaning.specs.Verdict.{fine, among, long, with_last}
use Rattle.meaning.specs.Rules.{application_fault, application_rules, rules}
use Rattle.meaning.specs.Document.{Parsed, document}
use Rattle.meaning.specs.Records.{lent_name}
use Rattle.meaning.specs.Plan.{boot_chain, Build, Plan, Planned, built?, wanted, wanted_by, first_uses, in_order, builds_of, first_app, app?, own_stem, stem_for, chosen, composed, plan_of, plan}
use Rattle.meaning.specs.Print.{wordOk, wordPart, wordComp, wordApp, wordBuild, wordStem, spelling, decimal, Field, of_word, of_number, of_text, shown, Line, spaced, ended, page}
use Rattle.meaning.specs.Listing.{chip_named, media_named, kind_named, lock_named, ok_line, part_line, placed, comp_line, app_line, build_line, stem_line, lines_of, out_size, listed, bytes_of}
use Rattle.laws.specs.Cases.{on}
use Rattle.laws.specs.Answers.{accepted_one, refused_never}
use Rattle.laws.specs.Accepted.{All, Sound, Groups, rules_groups, layout_sound, passes_all, fine_passes}
use Rattle.laws.specs.Fits.{Within, stored, fits}
use Rattle.laws.specs.Counted.{counted, at_most}
use Rattle.laws.specs.Plans.{valid_rules, text_planned}
use Rattle.laws.specs.Rooms.{valid_read, read_parts}
use Rattle.laws.specs.Weights.{weight_in, size, Weighed, document_weighs}
use Rattle.laws.specs.RecordWeights.{sum, stem_size, feature_count}
use Rattle.laws.specs.PresetWeights.{part_cost, comp_cost, app_cost, Tells, Costs, preset_costs, root_holds}
use Rattle.laws.specs.Decimals.{decimal_short}
use Rattle.laws.specs.Quoted.{quoted_short}
use Rattle.laws.specs.Pages.{page_append}

-- ---- sums

module _ {X : Type 0} (f : X → ℕ) where
  sum_append : (xs ys : List X) → sum f (xs ++ ys) ≡ sum f xs + sum f ys
  sum_append [] ys = omega arith
  sum_append (x ∷ xs) ys = omega (arith, sum_append xs ys)

  -- each is at most the sum
  sum_all : (n : ℕ) (xs : List X) → sum f xs < n → All (λ x. f x < n) xs
  sum_all n [] h = tt
  sum_all n (x ∷ xs) h = (omega arith, sum_all n xs (omega arith))

  -- where each is 1 at least, there are no more than the sum
  sum_counts : ((x : X) → 1 ≤ f x) → (xs : List X) → length xs ≤ sum f xs
  sum_counts h [] = omega arith
  sum_counts h (x ∷ xs) = omega (arith, h x, sum_counts h xs)

  sum_two : (g h : X → ℕ) → ((x : X) → f x + g x ≤ h x) → (xs : List X) → sum f xs + sum g xs ≤ sum h xs
  sum_two g h k [] = omega arith
  sum_two g h k (x ∷ xs) = omega (arith, k x, sum_two g h k xs)

-- ---- fields and lines

-- a field, with the space or the end after it
abbrev field_size : Field → ℕ
field_size f = suc (length (shown f))

spaced_length : (fs : List Field) → length (spaced fs) ≡ sum field_size fs
spaced_length [] = refl
spaced_length (f ∷ fs) = omega (arith, length-append (shown f) (spaced fs), spaced_length fs)

line_length : (f : Field) (fs : List Field) → length (ended (f ∷ fs)) ≡ sum field_size (f ∷ fs)
line_length f fs = omega (arith, length-append (shown f ++ spaced fs) (10 ∷ []), length-append (shown f) (spaced fs), spaced_length fs)

chip_short : (c : Chip) → length (spelling (chip_named c)) ≤ 4
unfolding spelling chip_word
chip_short d13x = omega arith
chip_short d21x = omega arith

media_short : (m : Media) → length (spelling (media_named m)) ≤ 8
unfolding spelling media_word
media_short spiNor = omega arith
media_short spiNand = omega arith

kind_short : (k : Kind) → length (spelling (kind_named k)) ≤ 3
unfolding spelling kind_word
kind_short kindApp = omega arith
kind_short kindPbp = omega arith
kind_short kindRaw = omega arith

lock_short : (b : Bool) → length (spelling (lock_named b)) ≤ 6
unfolding spelling
lock_short true = omega arith
lock_short false = omega arith

placed_short : (s : List ℕ) → length (shown (placed s)) ≤ 2 + 2 * length s
unfolding placed
placed_short s = on (nil? s) (λ e. rw e (omega arith)) (λ e. rw e (quoted_short s))

-- the numbers of entries, of values and of features
abbrev Small : ℕ → Type 0
Small n = n < 100000

small_short : (n : ℕ) → Small n → length (decimal n) ≤ 5
small_short n h = decimal_short 4 n h

-- an accepted layout's numbers are below 2^32
place_short : (n : ℕ) → n < 4294967296 → length (decimal n) ≤ 10
place_short n h = decimal_short 9 n (omega arith)

-- ---- each line

ok_short : (made : ℕ) (r : Preset) → Small made → Small (length r.partitions) → Small (length r.components) → Small (length r.applications) → length (ended (ok_line made r)) ≤ 41
unfolding ok_line spelling
ok_short made r m p c a =
    omega (
      arith,
      line_length (of_word wordOk) (of_word (chip_named r.board.chip) ∷ of_word (media_named r.image.media) ∷ of_number (length r.partitions) ∷ of_number (length r.components) ∷ of_number (length r.applications) ∷ of_number made ∷ []),
      chip_short r.board.chip,
      media_short r.image.media,
      small_short (length r.partitions) p,
      small_short (length r.components) c,
      small_short (length r.applications) a,
      small_short made m,
    )

part_short : (block : ℕ) (p : Partition) → Sound block p → length (ended (part_line p)) ≤ 2 * part_cost 19 p
unfolding part_line spelling
part_short block p h =
    omega (
      arith,
      line_length (of_word wordPart) (of_text p.name ∷ of_number p.offset ∷ of_number (p.offset + p.size) ∷ of_word (lock_named p.locked) ∷ []),
      quoted_short p.name,
      place_short p.offset (omega (arith, h.fits)),
      place_short (p.offset + p.size) h.fits,
      lock_short p.locked,
    )

-- half a component's
abbrev comp_half : Component → ℕ
comp_half c = 8 + (length c.head.name + length c.role.partition)

comp_short : (c : Component) → length (ended (comp_line c)) ≤ 2 * comp_half c
unfolding comp_line spelling
comp_short c =
    omega (
      arith,
      line_length (of_word wordComp) (of_text c.head.name ∷ of_word (kind_named c.head.kind) ∷ placed c.role.partition ∷ []),
      quoted_short c.head.name,
      kind_short c.head.kind,
      placed_short c.role.partition,
    )

app_short : (a : Application) → length a.name ≤ 32 → length (ended (app_line a)) ≤ 2 * app_cost 39 a
unfolding app_line spelling kind_word
app_short a h =
    omega (arith, line_length (of_word wordApp) (of_text a.pack ∷ of_text a.name ∷ placed a.partition ∷ []), quoted_short a.pack, quoted_short a.name, placed_short a.partition)

-- half a build's
abbrev build_half : Build → ℕ
build_half b = 8 + length b.pack

-- how many features it has
abbrev features_in : Build → ℕ
features_in b = length b.features

build_short : (b : Build) → Small (features_in b) → length (ended (build_line b)) ≤ 2 * build_half b
unfolding build_line spelling
build_short b h =
    omega (arith, line_length (of_word wordBuild) (of_text b.pack ∷ of_number (features_in b) ∷ []), quoted_short b.pack, small_short (features_in b) h)

stem_short : (s : List ℕ) → length (ended (stem_line s)) ≤ 8 + 2 * length s
unfolding stem_line spelling
stem_short s = omega (arith, line_length (of_word wordStem) (of_text s ∷ []), quoted_short s)

-- ---- lines one after the other

module _ {X : Type 0} (P : X → Type 0) (f : X → Line) (half : X → ℕ) (short : (x : X) → P x → length (ended (f x)) ≤ 2 * half x) where
  each_short : (xs : List X) → All P xs → length (page (map f xs)) ≤ 2 * sum half xs
  each_short [] h = omega arith
  each_short (x ∷ xs) h = omega (arith, length-append (ended (f x)) (page (map f xs)), short x h.0, each_short xs h.1)

all_any : {X : Type 0} (xs : List X) → All (λ x. Unit {0}) xs
all_any [] = tt
all_any (x ∷ xs) = (tt, all_any xs)

-- 62: no name is over 32 bytes
application_short : (parts : List Partition) (earlier : List (List ℕ)) (a : Application) → application_fault parts earlier a ≡ 0 → length a.name ≤ 32
unfolding application_fault
application_short parts earlier a e = ltb-false 32 (length a.name) (go (nil? a.name) (long a.name) _ e)
  where
    go : (unnamed far : Bool) (n : ℕ) → pick unnamed 61 (pick far 62 n) ≡ 0 → far ≡ false
    go true far n f = absurd (omega (arith, f))
    go false true n f = absurd (omega (arith, f))
    go false false n f = refl

applications_short : (parts : List Partition) (apps : List Application) → application_rules parts apps ≡ fine → All (λ (a : Application). length a.name ≤ 32) apps
unfolding application_rules
applications_short parts apps e =
    passes_all _ (application_fault parts) _ (λ earlier a z. application_short parts earlier a z) [] apps (fine_passes (application_fault parts) _ _ 0 [] apps e)

-- ---- builds and the stem

-- the first uses are some of all
firsts_sum : (f : Build → ℕ) (earlier : List (List ℕ)) (bs : List Build) → sum f (first_uses earlier bs) ≤ sum f bs
firsts_sum f earlier [] = omega arith
firsts_sum f earlier (b ∷ bs) =
    let h = firsts_sum f (with_last earlier b.pack) bs in
    on (among b.pack earlier) (λ t. rw t (omega (arith, h))) (λ t. rw t (omega (arith, h)))

-- what each component's builds have together, all builds have
builds_sum : (f : Build → ℕ) (g : Component → ℕ) → ((c : Component) → sum f (wanted c) ≤ g c) → (cs : List Component) → sum f (builds_of none cs) ≤ sum g cs
unfolding builds_of in_order
builds_sum f g h cs = omega (arith, firsts_sum f [] (wanted_by cs), go cs)
  where
    go : (cs : List Component) → sum f (wanted_by cs) ≤ sum g cs
    go [] = omega arith
    go (c ∷ cs) = omega (arith, sum_append f (wanted c) (wanted_by cs), h c, go cs)

-- half of a component's two
abbrev two_half : Component → ℕ
two_half c = 16 + (size length c.head.pack + size length c.boot.pbp_pack)

built_half : (p bin : Option (List ℕ)) (fs : List (List ℕ)) → sum build_half (built? p bin fs) ≤ 8 + size length p
built_half none bin fs = omega arith
built_half (some p) bin fs = omega arith

built_features : (p bin : Option (List ℕ)) (fs : List (List ℕ)) → sum features_in (built? p bin fs) ≤ length fs
built_features none bin fs = omega arith
built_features (some p) bin fs = omega arith

module _ (c : Component) where
  abbrev own_build : List Build
  own_build = built? c.head.pack c.head.bin c.role.features

  abbrev pbp_build : List Build
  pbp_build = built? c.boot.pbp_pack none c.role.pbp_features

  wanted_half : sum build_half (wanted c) ≤ two_half c
  unfolding wanted
  wanted_half =
      omega (arith, sum_append build_half own_build pbp_build, built_half c.head.pack c.head.bin c.role.features, built_half c.boot.pbp_pack none c.role.pbp_features)

  wanted_features : sum features_in (wanted c) ≤ feature_count c
  unfolding wanted
  wanted_features =
      omega (arith, sum_append features_in own_build pbp_build, built_features c.head.pack c.head.bin c.role.features, built_features c.boot.pbp_pack none c.role.pbp_features)

-- the stem is one component's, or the board's name
first_stem : (cs : List Component) → size length (own_stem (first_app cs)) ≤ sum stem_size cs
first_stem [] = omega arith
first_stem (c ∷ cs) =
    on (pick (nil? c.role.partition) false (app? c.head.kind)) (λ e. rw e (omega arith)) (λ e. rw e (omega (arith, first_stem cs)))

stem_fits : (n : ℕ) (r : Preset) → sum stem_size r.components ≤ n → length r.board.name ≤ n → length (stem_for r boot_chain) ≤ n
unfolding stem_for
stem_fits n r h g = go (own_stem (first_app r.components)) (first_stem r.components)
  where
    go : (o : Option (List ℕ)) → size length o ≤ sum stem_size r.components → length (or_default o r.board.name) ≤ n
    go none k = g
    go (some s) k = omega arith

lent_short : (name : List ℕ) → length (lent_name name) ≤ 5 + length name
unfolding lent_name
lent_short name = on (valid name) (λ e. rw e (omega arith)) (λ e. rw e (omega arith))

-- ---- an accepted text

module _ (lim : Limits) where
  text_short : (s : List ℕ) (x : Parsed) → document lim s ≡ accepted x → length s ≤ lim.text
  unfolding document
  text_short s x e = on (ltb lim.text (length s)) (λ t. refused_never _ _ _ x (rw t at e)) (λ t. ltb-false lim.text (length s) t)

  -- its tree weighs no more than a text may have bytes
  text_weighs : (s : List ℕ) (x : Parsed) → document lim s ≡ accepted x → weight_in x.root ≤ lim.text
  text_weighs s x e = omega (arith, subst (Weighed 0) e (document_weighs lim s), subst (Within stored (length s)) e (fits lim s), text_short s x e)

-- ---- all lines

-- 41 for `ok`, 8 for the stem's line, 10 for `board` in the place of the lent name; and twice 19 for each of 32 partitions, twice 38 for each of
-- 64 components with its builds, twice 42 for each of 64 applications, 39 and the default `app`: 11,515 in all. The rest stands in the tree,
-- each byte printed as two at most, and the stem once more
lines_fit : (made : ℕ) (name : List ℕ) (root : Table) (r : Preset) → rules r ≡ fine → Costs root 19 38 39 of01 name r → weight_in root ≤ 32768 → made ≤ 2048
    → length (page (lines_of made r (composed r boot_chain none))) ≤ out_size name
unfolding lines_of composed
lines_fit made name root r obeys c w m =
    let g : Groups r = rules_groups r obeys in
    let cs : List Component = r.components in
    let parts = each_short (Sound _) part_line (part_cost 19) (part_short _) r.partitions (layout_sound r.board.chip r.partitions g.laid) in
    let comps = each_short (λ x. Unit {0}) comp_line comp_half (λ x _. comp_short x) cs (all_any cs) in
    let apps = each_short (λ a. length a.name ≤ 32) app_line (app_cost 39) app_short r.applications (applications_short r.partitions r.applications g.applied) in
    let few : sum features_in (builds_of none cs) < 100000 = omega (arith, builds_sum features_in feature_count wanted_features cs, c.features, root_holds root) in
    let builds = each_short (λ b. Small (features_in b)) build_line build_half build_short (builds_of none cs) (sum_all features_in 100000 (builds_of none cs) few) in
    let both : sum comp_half cs + sum two_half cs ≤ sum (comp_cost 38) cs = sum_two comp_half two_half (comp_cost 38) (λ x. omega arith) cs in
    let stem = stem_fits (32773 + length name) r (omega (arith, c.stems, root_holds root)) (omega (arith, c.board, lent_short name)) in
    let ok =
    ok_short made r (omega arith)
    (omega (arith, sum_counts (part_cost 19) (λ x. omega arith) r.partitions, c.parts, root_holds root))
    (omega (arith, sum_counts (comp_cost 38) (λ x. omega arith) cs, c.comps, root_holds root))
    (omega (arith, sum_counts (app_cost 39) (λ x. omega arith) r.applications, c.apps, root_holds root)) in
    simp (length-append, page_append) (omega (arith, simp length-append at ok, parts, comps, apps, builds, both, builds_sum build_half two_half wanted_half cs, stem, simp length-append at (stem_short (stem_for r boot_chain)), root_holds root, c.parts, c.comps, c.apps))

plan_is : (r : Preset) (p : Plan) → plan_of r boot_chain ≡ accepted p → composed r boot_chain none ≡ p
unfolding plan_of chosen
plan_is r p e = accepted_one (composed r boot_chain none) p e

-- those of an accepted plan
pub planned_fits : (store tree : ℕ) (name text : List ℕ) (x : Planned) → plan of01 store tree name boot_chain text ≡ accepted x → length (bytes_of (listed x)) ≤ out_size name
planned_fits store tree name text x e =
    let h = text_planned of01 store tree name text boot_chain x e in
    let q = read_parts of01 store tree text name x.read (valid_read of01 store tree text name x.read h.0) in
    let root = x.read.parsed.root in
    subst (λ (p : Plan). length (page (lines_of x.read.parsed.made x.read.preset p)) ≤ out_size name) (plan_is x.read.preset x.plan h.1)
    (lines_fit x.read.parsed.made name root x.read.preset (valid_rules of01 store tree name text x.read h.0)
    (subst (Tells (Costs root 19 38 39 of01 name)) q.1 (preset_costs root 19 38 39 of01 name)) (text_weighs of01 text x.read.parsed q.0)
    (subst (Within counted 2048) q.0 (at_most of01 text)))
