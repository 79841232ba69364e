-- The uses of packages gathered, and the first of each: one law for each way on and out.
use Prim.Native.Nat.{ℕ, zero, suc, ◌+◌, ◌-◌, ◌≤◌, ◌<◌}
use mathlib.Core.Bool.{Bool, true, false}
use mathlib.Core.List.{List as Seq, [], ◌∷◌, ◌++◌, map, append_assoc, append-nil, map-append}
use mathlib.Core.Path.{◌≡◌, refl, sym, ap, ◌∙◌}
use native.Mathlib.Omega.{arith}
use native.Mathlib.Numerals.{add-one}
use borrow.Author.Tests.{lt-ltb, le-ltb}
use lib.Dec.{ltb}
use lib.ListN.{length, take, get_or, set, replicate, length-set, length-map, length-append, get_or-map}
use lib.Seq.{length-take-le, get_or-take, take-nil, take-suc, take-suc-set, slice, slice-cons, slice_empty}
use Rattle.meaning.specs.Base.{pick, ascii}
use Rattle.meaning.specs.Rules.{twice}
use Rattle.tree.specs.declared.Value.{Value}
use Rattle.tree.specs.declared.Span.{Span}
use Rattle.tree.specs.declared.Step.{Step}
use Rattle.tree.specs.declared.Items.{Items}
use Rattle.std.specs.Prelude.{Option, Some, None}
use Rattle.tree.specs.Steps.{items_from, to_come, Gives, KeyIs, item_room, item_ended, item_given, item_stands}
use Rattle.validate.proofs.Pairing.{key_spot_lem}
use Rattle.tree.specs.Room.{Holds}
use Rattle.tree.specs.Doors as doors
use Rattle.tree.specs.Doors.{Rooms, Stood}
use Rattle.schema.specs.declared.Text.{Text}
use Rattle.schema.specs.declared.Text.TheVariants as texts
use Rattle.schema.specs.declared.Features.{Features}
use Rattle.schema.specs.Texts.{or_text, is_given}
use Rattle.parse.specs.declared.field.TextRead.{TextRead}
use Rattle.parse.specs.declared.component.Sources.{Sources}
use Rattle.parse.specs.declared.component.Lists.{Lists}
use Rattle.parse.specs.declared.front.TableRead.{TableRead}
use Rattle.parse.specs.declared.application.ApplicationRead.{ApplicationRead}
use Rattle.parse.specs.declared.entry.List.{List}
use Rattle.parse.specs.Fields.{text_at}
use Rattle.parse.specs.Component.{sources, lists, head_read, role_read, boot_read, component_read}
use Rattle.parse.specs.Application.{loading, application_read}
use Rattle.parse.specs.Entries.{entry_table, table_at, component_at, application_at}
use Rattle.parse.specs.Views.{component_list}
use Rattle.parse.proofs.Judging.{components_among}
use Rattle.turns.specs.Marks.{any_of}
use Rattle.schema.specs.declared.spot.Spot.{Spot}
use Rattle.schema.specs.declared.spot.Spot.TheVariants as named
use Rattle.schema.specs.Spots as spots
use Rattle.schema.specs.Spots.{packed, no_spot, text_spot, list_spot, spotted, list_at}
use Rattle.schema.specs.Spots.{Short, ShortList, stored_short, list_short}
use Rattle.validate.specs.ClashSaid.{field_text_short, field_list_short, lists_short}
use Rattle.plan.specs.declared.component.Build.{Build}
use Rattle.plan.specs.declared.builds.Use.{Use}
use Rattle.plan.specs.declared.builds.BuildList.{BuildList}
use Rattle.plan.specs.declared.builds.Wanted.{Wanted}
use Rattle.plan.specs.Planned.{built}
use Rattle.plan.specs.declared.choice.Choice.{Choice}
use Rattle.plan.specs.declared.choice.Choice.TheVariants as choices
use Rattle.plan.specs.Choices.{Standing}
use Rattle.plan.specs.Builds.{blank, no_use, use_of, build_at, both_at, wanted, Used, Wanting, Room, fresh, first_uses, wanted_at, uses_of, each_component, application_use, Followed, own_uses, uses, builds_of, build}

-- ---- one use

short_or : (bin p : Text) → Short bin → Short p → Short (or_text bin p)
short_or texts.Absent p h k = k
short_or (texts.Stored from len) p h k = h
short_or texts.Lent p h k = absurd h
short_or (texts.Fixed w) p h k = absurd h
short_or (texts.WithAic from len) p h k = absurd h

-- nothing is lost where the texts are short
use_short : (p bin : Text) (fs : Features) → Short p → Short bin → ShortList fs → build_at (use_of p bin fs) ≡ built p bin fs
unfolding build_at use_of
use_short p bin fs h k l = rw (stored_short p h, stored_short (or_text bin p) (short_or bin p k h), list_short fs l)

pub wanted_read : (room store : Seq ℕ) (made n : ℕ) (v : Value) (t : TableRead) (s : Sources) (l : Lists) (o : TextRead) (own pbp : Use)
    → v ≡ doors.value_at room store n → t ≡ entry_table room made v → s ≡ sources room store t.fields → l ≡ lists room store made t.fields 32
    → o ≡ text_at room store t.fields (ascii "pbp_package") → own ≡ use_of s.«package» s.bin l.features → pbp ≡ use_of o.text texts.Absent l.pbp_features
    → both_at (record { own = own; pbp = pbp }) ≡ wanted_at room store made n
unfolding wanted component_at component_read head_read sources role_read boot_read
wanted_read room store made n v t s l o own pbp e1 e2 e3 e4 e5 e6 e7 =
    let f = (table_at room store made n).fields in
    let short = field_text_short room store f in
    let both = lists_short room store f made 32 in
    let fs = lists room store made f 32 in
    rw (e6, e7, e3, e4, e5, e2, e1)
    (rw (
      use_short (text_at room store f (ascii "package")).text (text_at room store f (ascii "bin")).text fs.features (short (ascii "package")) (short (ascii "bin")) both.0,
      use_short (text_at room store f (ascii "pbp_package")).text texts.Absent fs.pbp_features (short (ascii "pbp_package")) tt both.1,
    ))

-- an application's package and bin are its key
pub application_read_lem : (room store : Seq ℕ) (made n : ℕ) (r : ApplicationRead) (k : Span) (key list : Spot) → r ≡ application_at room store made n 32 → KeyIs room n k
    → key ≡ spots.bytes_spot k.from k.len → list ≡ list_spot r.application.features → build_at (record { «package» = key; bin = key; features = list }) ≡ application_use room store made n
unfolding build_at application_use application_at application_read loading
application_read_lem room store made n r k key list e1 e2 e3 e4 =
    let fs = (application_at room store made n 32).application.features in
    rw (key_spot_lem room n k key e2 e3, e4, e1, list_short fs (field_list_short room store (table_at room store made n).fields made 32 (ascii "features")))

-- ---- two more in an array

module _ {X : Type 0} (xs : Seq X) (i : ℕ) (a b : X) where
  pub take_two_set : i + 1 < length xs → take (i + 2) (set (set xs i a) (i + 1) b) ≡ take i xs ++ (a ∷ b ∷ [])
  take_two_set l =
      let e : i + 2 ≡ suc (i + 1) = omega arith in
      let f : take (suc (i + 1)) (set (set xs i a) (i + 1) b) ≡ take (i + 1) (set xs i a) ++ (b ∷ []) = take-suc-set (set xs i a) (i + 1) b (omega (arith, l, length-set xs i a)) in
      let g : take (suc i) (set xs i a) ≡ take i xs ++ (a ∷ []) = take-suc-set xs i a (omega (arith, l)) in
      rw (e, f, add-one i, g, append_assoc)

-- these are the uses at the head of an array
pub used_by : (most i : ℕ) (us : Seq Build) (xs : Seq Use) → us ≡ map build_at (take i xs) → i ≤ length xs → i ≤ most → Used most us (record { count = i; items = xs })
used_by most i us xs e l m =
    let n : length us ≡ i = ap length e ∙ length-map (take i xs) build_at ∙ length-take-le i xs l in
    record { count = sym n; fits = omega (arith, n); items = rw n (sym e) }

-- ---- components

-- the uses of those that were met stand in the array; m more may come
pub record Gathering (room store : Seq ℕ) (made place end : ℕ) (xs : Seq Use) (i : ℕ) (w : Items) : Type 0 where
  pub among : w.end ≡ end
  pub long : length xs ≡ 129
  pub more : ℕ
  pub few : i + more + more ≡ 128
  pub left : each_component room store made place end ≡ map build_at (take i xs) ++ uses_of room store made (take more (to_come room w))

module _ (room store : Seq ℕ) (made place end : ℕ) where
  pub comps_start : (xs : Seq Use) (w : Items) → xs ≡ replicate 129 no_use → w ≡ items_from place 0 end → Gathering room store made place end xs 0 w
  comps_start xs w e d = record { among = ap (λ (x : Items). x.end) d; long = ap length e; more = 64; few = refl; left = rw d }

  module _ (xs : Seq Use) (i : ℕ) (w : Items) (k : Gathering room store made place end xs i w) where
    comps_within : Wanting room made end → w.end ≤ made
    comps_within h = omega (arith, k.among, h.within)

    pub comps_holds : Wanting room made end → Holds room w.end
    comps_holds h = item_room room made w h.rooms (comps_within h)

    -- no more are asked
    comps_done : take k.more (to_come room w) ≡ [] → Used 128 (each_component room store made place end) (record { count = i; items = xs })
    comps_done g = used_by 128 i (each_component room store made place end) xs (rw (g, append-nil) at k.left) (omega (arith, k.few, k.long)) (omega (arith, k.few))

    pub comps_full : 128 ≤ i → Used 128 (each_component room store made place end) (record { count = i; items = xs })
    comps_full l = let d : k.more ≡ 0 = omega (arith, k.few) in comps_done (rw d)

    module _ (step : Option (Step Items)) (h : Gives room w step) where
      pub comps_none : step ≡ None → Used 128 (each_component room store made place end) (record { count = i; items = xs })
      comps_none g = comps_done (rw (item_ended room w step h g) (take-nil k.more))

      module _ (given : Step Items) (g : step ≡ Some given) where
        pub comps_stood : Wanting room made end → Stood room given.value
        comps_stood q = item_stands room w step h given g made q.rooms (comps_within q)

        module _ (l : i < 128) where
          pub comps_room : i + 1 < 129
          comps_room = omega arith

          pub comps_on : (u : Wanted) → both_at u ≡ wanted_at room store made given.value
              → Gathering room store made place end (set (set xs i u.own) (i + 1) u.pbp) (i + 2) given.rest
          comps_on u e = by k.more k.few k.left
            where
              by : (m : ℕ) → i + m + m ≡ 128 → each_component room store made place end ≡ map build_at (take i xs) ++ uses_of room store made (take m (to_come room w))
                  → Gathering room store made place end (set (set xs i u.own) (i + 1) u.pbp) (i + 2) given.rest
              by zero f z = absurd (omega (arith, f))
              by (suc m) f z =
                  let s = item_given room w step h given g in
                  let y : each_component room store made place end ≡ map build_at (take i xs) ++ (build_at u.own ∷ build_at u.pbp ∷ uses_of room store made (take m (to_come room given.rest))) = rw (s.come, ← e) at z in
                  record {
                    among = s.end ∙ k.among;
                    long = length-set (set xs i u.own) (i + 1) u.pbp ∙ length-set xs i u.own ∙ k.long;
                    more = m;
                    few = omega (arith, f);
                    left = rw (take_two_set xs i u.own u.pbp (omega (arith, f, k.long)), map-append build_at (take i xs) (u.own ∷ u.pbp ∷ []), append_assoc) y;
                  }

-- ---- the application's use after them

module _ (u : BuildList) (h : Room u) (w : length u.items ≡ 129) where
  pub follows : (room store : Seq ℕ) (made n : ℕ) (x : Use) → build_at x ≡ application_use room store made n
      → Followed room store made n u (record { count = u.count + 1; items = set u.items u.count x })
  follows room store made n x e =
      let s : take (suc u.count) (set u.items u.count x) ≡ take u.count u.items ++ (x ∷ []) = take-suc-set u.items u.count x (omega (arith, h.few, w)) in
      record { count = refl; items = rw (add-one u.count, s, map-append build_at (take u.count u.items) (x ∷ []), e) }

-- ---- first uses

abbrev same_package : Seq ℕ → Use → Use → Bool
same_package store u v = twice (spotted store u.«package») (spotted store v.«package»)

module _ (store : Seq ℕ) where
  packed_at : (s : Spot) → packed store (spots.text_at s) ≡ spotted store s
  packed_at named.Nothing = refl
  packed_at (named.Bytes from len) = refl
  packed_at (named.Items place) = refl

  any_at : (u : Use) (es : Seq Use) → any_of (λ (v : Build). twice (packed store (spots.text_at u.«package»)) (packed store v.«package»)) (map build_at es) ≡ any_of (same_package store u) es
  unfolding build_at
  any_at u [] = refl
  any_at u (e ∷ es) = rw (any_at u es, packed_at u.«package», packed_at e.«package»)

  -- a use of a package that none of the earlier ones is of, by spots
  fresh_at : (es : Seq Use) (u : Use) → fresh store (map build_at es) (build_at u) ≡ pick (is_given (spots.text_at u.«package»)) (pick (any_of (same_package store u) es) false true) false
  unfolding fresh build_at
  fresh_at es u = rw (any_at u es)

-- the first uses among those before number i stand in the array
pub record Firsts (store : Seq ℕ) (uses : Seq Use) (count : ℕ) (xs : Seq Use) (n i : ℕ) : Type 0 where
  pub high : i ≤ count
  pub fits : count ≤ 129
  pub whole : length uses ≡ 129
  pub long : length xs ≡ 129
  pub few : n ≤ i
  pub left : first_uses store [] (map build_at (take count uses)) ≡ map build_at (take n xs) ++ first_uses store (map build_at (take i uses)) (map build_at (slice i count uses))

-- use number i₀ is of no package that one before number j is of; the inner loop leaves its number as it is
pub record Unused (store : Seq ℕ) (uses : Seq Use) (u : Use) (i₀ i j : ℕ) : Type 0 where
  pub is : i ≡ i₀
  pub high : j ≤ i₀
  pub whole : i₀ ≤ length uses
  pub yes : is_given (spots.text_at u.«package») ≡ true
  pub left : any_of (same_package store u) (take i₀ uses) ≡ any_of (same_package store u) (slice j i₀ uses)

module _ (store : Seq ℕ) (uses : Seq Use) (i i' j : ℕ) (h : Unused store uses (get_or uses i no_use) i i' j) (m : j < i') where
  unused_head : any_of (same_package store (get_or uses i no_use)) (take i uses)
      ≡ pick (same_package store (get_or uses i no_use) (get_or uses j no_use)) true (any_of (same_package store (get_or uses i no_use)) (slice (j + 1) i uses))
  unused_head =
      let a : slice j i uses ≡ get_or uses j no_use ∷ slice (suc j) i uses = slice-cons j i uses no_use (omega (arith, m, h.is)) h.whole in
      rw (add-one j) (rw a at h.left)

  pub unused_on : (r : Bool) → r ≡ same_package store (get_or uses i no_use) (get_or uses j no_use) → r ≡ false → Unused store uses (get_or uses i no_use) i i' (j + 1)
  unused_on r t e = record { is = h.is; high = omega (arith, m, h.is); whole = h.whole; yes = h.yes; left = rw (← t, e) at unused_head }

module _ (store : Seq ℕ) (uses : Seq Use) (count : ℕ) where
  pub firsts_start : (xs : Seq Use) → xs ≡ replicate 129 no_use → count ≤ 129 → length uses ≡ 129 → Firsts store uses count xs 0 0
  firsts_start xs e l w = record { high = omega arith; fits = l; whole = w; long = ap length e; few = omega arith; left = refl }

  module _ (xs : Seq Use) (n i : ℕ) (k : Firsts store uses count xs n i) where
    pub firsts_end : count ≤ i → Used 129 (first_uses store [] (map build_at (take count uses))) (record { count = n; items = xs })
    firsts_end l =
        let e : i ≡ count = omega (arith, k.high) in
        used_by 129 n (first_uses store [] (map build_at (take count uses))) xs (rw (e, slice_empty count uses, append-nil) at k.left) (omega (arith, k.few, k.high, k.fits, k.long)) (omega (arith, k.few, k.high, k.fits))

    module _ (l : i < count) where
      -- use number i is the first of those that are left
      firsts_head : first_uses store [] (map build_at (take count uses))
          ≡ map build_at (take n xs)
          ++ pick (fresh store (map build_at (take i uses)) (build_at (get_or uses i no_use)))
          (build_at (get_or uses i no_use) ∷ first_uses store (map build_at (take (i + 1) uses)) (map build_at (slice (i + 1) count uses)))
          (first_uses store (map build_at (take (i + 1) uses)) (map build_at (slice (i + 1) count uses)))
      firsts_head =
          let a : slice i count uses ≡ get_or uses i no_use ∷ slice (suc i) count uses = slice-cons i count uses no_use l (omega (arith, k.fits, k.whole)) in
          let b : take (suc i) uses ≡ take i uses ++ (get_or uses i no_use ∷ []) = take-suc uses i no_use (omega (arith, k.fits, k.whole)) in
          rw (add-one i, b, map-append build_at (take i uses) (get_or uses i no_use ∷ [])) (rw a at k.left)

      skipped : fresh store (map build_at (take i uses)) (build_at (get_or uses i no_use)) ≡ false → Firsts store uses count xs n (i + 1)
      skipped e =
          record { high = omega arith; fits = k.fits; whole = k.whole; long = k.long; few = omega (arith, k.few); left = rw e at firsts_head }

      pub firsts_absent : (t : Text) (b : Bool) → t ≡ spots.text_at (get_or uses i no_use).«package» → b ≡ is_given t → b ≡ false → Firsts store uses count xs n (i + 1)
      firsts_absent t b d g e = skipped (rw (fresh_at store (take i uses) (get_or uses i no_use), ← d, ← g, e))

      pub unused_start : (t : Text) (b : Bool) → t ≡ spots.text_at (get_or uses i no_use).«package» → b ≡ is_given t → b ≡ true → Unused store uses (get_or uses i no_use) i i 0
      unused_start t b d g e = record { is = refl; high = omega arith; whole = omega (arith, k.fits, k.whole); yes = rw (← d, ← g, e); left = refl }

      module _ (i' j : ℕ) (h : Unused store uses (get_or uses i no_use) i i' j) where
        pub unused_low : j ≤ 129
        unused_low = omega (arith, h.high, k.fits, l)

        pub number_low : i' < 129
        number_low = omega (arith, h.is, k.fits, l)

        pub firsts_less : count - (i' + 1) < count - i
        firsts_less = omega (arith, h.is, l)

        pub firsts_again : (r : Bool) → r ≡ same_package store (get_or uses i no_use) (get_or uses j no_use) → j < i' → r ≡ true → Firsts store uses count xs n (i' + 1)
        firsts_again r t m e = let a = rw (← t, e) at (unused_head store uses i i' j h m) in rw h.is (skipped (rw (fresh_at store (take i uses) (get_or uses i no_use), h.yes, a)))

        pub firsts_room : n < 129
        firsts_room = omega (arith, k.few, k.fits, l)

        pub firsts_on : i' ≤ j → Firsts store uses count (set xs n (get_or uses i no_use)) (n + 1) (i' + 1)
        firsts_on m =
            let u : Use = get_or uses i no_use in
            let e : j ≡ i = omega (arith, h.high, h.is) in
            let a : any_of (same_package store u) (take i uses) ≡ false = rw (e, slice_empty i uses) at h.left in
            let b : fresh store (map build_at (take i uses)) (build_at u) ≡ true = rw (fresh_at store (take i uses) u, h.yes, a) in
            let c : take (suc n) (set xs n u) ≡ take n xs ++ (u ∷ []) = take-suc-set xs n u (omega (arith, k.few, k.fits, k.long, l)) in
            record {
              high = omega (arith, h.is, l);
              fits = k.fits;
              whole = k.whole;
              long = length-set xs n u ∙ k.long;
              few = omega (arith, k.few, h.is);
              left = rw (h.is, add-one n, c, map-append build_at (take n xs) (u ∷ []), append_assoc) (rw b at firsts_head);
            }

-- ---- all uses

pub wanting : (room store : Seq ℕ) (made : ℕ) (l : List) → Rooms room made → l ≡ component_list room store made → Wanting room made l.end
wanting room store made l h e = record { rooms = h; within = (components_among room store made l h e).end }

pub chosen_stood : (room : Seq ℕ) (c : Choice) (place n : ℕ) → Standing room c → c ≡ choices.At place n → Stood room n
chosen_stood room c place n h e = rw e at h

module _ (room store : Seq ℕ) (made : ℕ) (l : List) (e : l ≡ component_list room store made) (u : BuildList) (h : Used 128 (each_component room store made l.place l.end) u) where
  pub used_room : Room u
  used_room = record { few = omega (arith, h.count, h.fits) }

  own : Used 128 (own_uses room store made) u
  own = rw e at h

  widened : Used 129 (own_uses room store made) u
  widened = record { count = own.count; fits = omega (arith, own.fits); items = own.items }

  pub uses_own : (c : Choice) → c ≡ choices.BootChain → Used 129 (uses room store made c) u
  uses_own c g = rw g widened

  pub uses_followed : (c : Choice) (place n : ℕ) (r : BuildList) → c ≡ choices.At place n → Followed room store made n u r → Used 129 (uses room store made c) r
  uses_followed c place n r g f =
      let d : length (own_uses room store made ++ (application_use room store made n ∷ [])) ≡ u.count + 1
      = length-append (own_uses room store made) (application_use room store made n ∷ []) ∙ ap (λ (k : ℕ). k + 1) (sym own.count) in
      let a : map build_at (take u.count u.items) ≡ own_uses room store made = rw own.count own.items in
      rw g (record { count = f.count ∙ sym d; fits = omega (arith, d, own.count, own.fits); items = rw (d, f.items, a) })

pub uses_undeclared : (room store : Seq ℕ) (made : ℕ) (c : Choice) (items : Seq Use) → c ≡ choices.Undeclared → Used 129 (uses room store made c) (record { count = 0; items = items })
uses_undeclared room store made c items g = rw g (record { count = refl; fits = omega arith; items = refl })

-- ---- builds

pub builds_used : (room store : Seq ℕ) (made : ℕ) (c : Choice) (u r : BuildList) → Used 129 (uses room store made c) u
    → Used 129 (first_uses store [] (map build_at (take u.count u.items))) r → Used 129 (builds_of room store made c) r
unfolding builds_of
builds_used room store made c u r h k = let a : map build_at (take u.count u.items) ≡ uses room store made c = rw h.count h.items in rw a at k

blank_at : build_at no_use ≡ blank
unfolding build_at
blank_at = refl

-- number i of those that an array's uses are
pub used_at : (most : ℕ) (us : Seq Build) (b : BuildList) (i : ℕ) → Used most us b → i < b.count → get_or us i blank ≡ build_at (get_or b.items i no_use)
used_at most us b i h l =
    let a : get_or us i blank ≡ get_or (map build_at (take (length us) b.items)) i (build_at no_use) = rw (h.items, blank_at) in
    a ∙ get_or-map build_at (take (length us) b.items) i no_use ∙ ap build_at (get_or-take (length us) b.items i no_use (omega (arith, l, h.count)))

module _ (room store : Seq ℕ) (made : ℕ) (c : Choice) (i : ℕ) (b : BuildList) (h : Used 129 (builds_of room store made c) b) where
  pub build_found : (u : Use) (r : Build) → i < b.count → u ≡ get_or b.items i no_use → r ≡ build_at u → Some r ≡ build room store made c i
  unfolding build
  build_found u r l e k =
      let t : ltb i (length (builds_of room store made c)) ≡ true = lt-ltb i (length (builds_of room store made c)) (omega (arith, l, h.count)) in
      rw (t, used_at 129 (builds_of room store made c) b i h l, k, e)

  pub build_none : b.count ≤ i → None ≡ build room store made c i
  unfolding build
  build_none l =
      let t : ltb i (length (builds_of room store made c)) ≡ false = le-ltb i (length (builds_of room store made c)) (omega (arith, l, h.count)) in
      rw t
