-- All entries gathered into arrays: one law for each way on and out.
use Prim.Native.Nat.{ℕ, zero, suc, ◌+◌, ◌-◌, ◌≤◌, ◌<◌}
use mathlib.Core.Bool.{Bool, true, false, ◌||◌}
use mathlib.Core.List.{List as Seq, [], ◌∷◌, ◌++◌, map, append_assoc, append-nil, map-append}
use mathlib.Core.Path.{◌≡◌, refl, sym, ap, ◌∙◌}
use native.Mathlib.Omega.{arith}
use native.Mathlib.Numerals.{add-one}
use borrow.Author.Tests.{eq-eqb, ne_eqb}
use lib.ListN.{length, take, drop, set, replicate, length-set, length-map, length-drop, take-append-drop}
use Rattle.std.proofs.Common.{Option, Result}
use Rattle.layout.specs.Parts.{placed}
use lib.Seq.{take-suc-set, take_all, length-take-le, drop-drop, drop-set-lt}
use Rattle.meaning.specs.Refusal.{in_application}
use Rattle.meaning.specs.Fields.{listed}
use Rattle.laws.specs.Cases.{on}
use Rattle.std.specs.Prelude.{Option, Some, None}
use Rattle.tree.specs.declared.Step.{Step}
use Rattle.tree.specs.declared.Items.{Items}
use Rattle.tree.specs.declared.Keys.{Keys}
use Rattle.tree.specs.Doors.{Stood, items}
use Rattle.tree.specs.Steps.{items_from, to_come, Gives, item_ended, item_given, Ready, Begins, KeyGives, key_stands}
use Rattle.parse.specs.declared.Refusal.{Refusal}
use Rattle.parse.specs.Refusals.{earlier}
use Rattle.parse.specs.Entries as parsed
use Rattle.parse.specs.Entries.{refusal_at, refusal_of, each_component, application_r, walk, application_fault}
use Rattle.parse.proofs.Entering as reading
use Rattle.meaning.specs.declared.Refused.{Refused}
use Rattle.meaning.specs.declared.Refused.TheVariants.{ComponentTwice, ApplicationTwice}
use Rattle.meaning.specs.Numbered.{number}
use Rattle.turns.specs.declared.Mark.{Mark}
use Rattle.turns.specs.declared.EntryRefused.{EntryRefused}
use Rattle.turns.specs.Marks.{no_marks, any_of, first_hit, at_entry, judged, judged_by}
use Rattle.turns.specs.Refusals.{judged_told}
use Rattle.validate.specs.declared.Entry.{Entry}
use Rattle.schema.specs.declared.Partition.{Partition}
use Rattle.schema.specs.declared.spot.Spot.{Spot}
use Rattle.validate.specs.declared.uses.Pair.{Pair}
use Rattle.schema.specs.Spots.{no_spot}
use Rattle.validate.specs.Clashes.{clash}
use Rattle.validate.specs.Entries.{component_entry, application_entry, component_at, application_at}
use Rattle.validate.specs.Gathered.{blank, either, fault_at, met, Listed, Counted, Components, Followed, Applications}

-- no packages
pub blank_is : (s : Spot) → s ≡ no_spot → replicate 128 (record { «package» = s; features = s; pbp_package = s; pbp_features = s }) ≡ replicate 128 blank
blank_is s e = rw e

-- ---- both arrays

-- the number that stands at a place of a list, and what is left after it
module _ (n : ℕ) (ns : Seq ℕ) where
  next_low : (i : ℕ) (all : Seq ℕ) → drop i all ≡ n ∷ ns → i < length all
  next_low i all e = omega (arith, length-drop i all, ap length e)

  next_taken : (i : ℕ) (all : Seq ℕ) → drop i all ≡ n ∷ ns → take (suc i) all ≡ take i all ++ (n ∷ [])
  next_taken zero (x ∷ all) e = let z : x ≡ n = cc in rw z
  next_taken zero [] e = let z : ◌≡◌ {A = ℕ} 0 1 = cc in absurd (omega arith)
  next_taken (suc i) [] e = let z : ◌≡◌ {A = ℕ} 0 1 = cc in absurd (omega arith)
  next_taken (suc i) (x ∷ all) e = ap (λ (l : Seq ℕ). x ∷ l) (next_taken i all e)

-- one more stands at the place
one_more : {X : Type 0} (xs front : Seq X) (at : ℕ) (x : X) → at < length xs → take at xs ≡ front → take (at + 1) (set xs at x) ≡ front ++ (x ∷ [])
one_more xs front at x l e = rw (add-one at, take-suc-set xs at x l, e)

-- what marks were judged to be, by its number
by_number : (twice : Refused) (store : Seq ℕ) (ms : Seq (Mark Refused)) (own : Result (Unit {0}) (EntryRefused Refused)) → own ≡ judged_by twice store ms → at_entry own ≡ judged (number twice) store ms
by_number twice store ms own e = ap at_entry e ∙ judged_told twice store ms

-- of the entries that numbers stand for the first i were met: their marks and, after those in front, their packages stand in the arrays
pub record Passed (entry : ℕ → Entry) (all left : Seq ℕ) (front : Seq Pair) (ms : Seq (Mark Refused)) (ps : Seq Pair) (i at : ℕ) : Type 0 where
  pub here : drop i all ≡ left
  pub high : i ≤ length all
  pub mark_room : length ms ≡ 64
  pub pair_room : length ps ≡ 128
  pub marks : take i ms ≡ map (λ n. (entry n).mark) (take i all)
  pub pairs : take at ps ≡ front ++ map (λ n. (entry n).pair) (take i all)

module _ (entry : ℕ → Entry) (all : Seq ℕ) (front : Seq Pair) (marks : Seq (Mark Refused)) (pairs : Seq Pair) (i at : ℕ) where
  passed_count : (left : Seq ℕ) → Passed entry all left front marks pairs i at → length all ≡ i + length left
  passed_count left k = omega (arith, k.high, length-drop i all, ap length k.here)

  passed_on : (n : ℕ) (ns : Seq ℕ) (e : Entry) → i < 64 → at < 128 → e ≡ entry n → Passed entry all (n ∷ ns) front marks pairs i at
      → Passed entry all ns front (set marks i e.mark) (set pairs at e.pair) (i + 1) (at + 1)
  passed_on n ns e l m h k =
      let t : take (i + 1) all ≡ take i all ++ (n ∷ []) = rw (add-one i) (next_taken n ns i all k.here) in
      record {
        here = sym (drop-drop 1 i all) ∙ ap (drop 1) k.here;
        high = omega (arith, next_low n ns i all k.here);
        mark_room = length-set marks i e.mark ∙ k.mark_room;
        pair_room = length-set pairs at e.pair ∙ k.pair_room;
        marks =
            one_more marks (map (λ n. (entry n).mark) (take i all)) i e.mark (omega (arith, k.mark_room)) k.marks
            ∙ rw (t, map-append (λ n. (entry n).mark) (take i all) (n ∷ []), h);
        pairs =
            one_more pairs (front ++ map (λ n. (entry n).pair) (take i all)) at e.pair (omega (arith, k.pair_room)) k.pairs
            ∙ rw (t, map-append (λ n. (entry n).pair) (take i all) (n ∷ []), append_assoc, h);
      }

  passed_listed : (left : Seq ℕ) → Passed entry all left front marks pairs i at → (store : Seq ℕ) (number : ℕ) (own : Result (Unit {0}) (EntryRefused Refused)) → i ≤ 64 → at_entry own ≡ judged number store (take i marks)
      → Listed store number entry (take i all) i own
  passed_listed left k store number own l e =
      let n : length (take i all) ≡ i = length-take-le i all k.high in
      record { is = sym n; few = omega (arith, n); own = e ∙ ap (judged number store) k.marks }

-- ---- components

any_more : {X : Type 0} (f : X → Bool) (xs : Seq X) (x : X) → any_of f (xs ++ (x ∷ [])) ≡ either (any_of f xs) (f x)
any_more f [] x = on (f x) (λ e. rw e) (λ e. rw e)
any_more f (y ∷ ys) x = on (f y) (λ e. rw e) (λ e. rw e (any_more f ys x))

or_either : (a b : Bool) → (a || b) ≡ either a b
or_either true b = refl
or_either false b = refl

-- components that were met on a walk that began as v, and those that are to come
pub record Composed (room store : Seq ℕ) (made : ℕ) (parts : Seq (Seq ℕ)) (v : Items) (marks : Seq (Mark Refused)) (pairs : Seq Pair) (fault : Refusal) (first : Bool) (i : ℕ) (w : Items) : Type 0 where
  pub reads : reading.Composed room store made v.place v.end 32 i w
  pub few : length (to_come room v) ≤ 64
  pub none : fault ≡ refusal_at 0 0 0
  pub passed : Passed (component_at room store made parts) (to_come room v) (to_come room w) [] marks pairs i i
  pub rest : drop i pairs ≡ replicate (128 - i) blank
  pub seen : first ≡ any_of (λ n. (component_at room store made parts n).first) (take i (to_come room v))

module _ (room store : Seq ℕ) (made : ℕ) (parts : Seq (Seq ℕ)) where
  pub comps_start : (place end : ℕ) (v : Items) (marks : Seq (Mark Refused)) (pairs : Seq Pair) (fault : Refusal) → Counted room made place end → v ≡ items_from place 0 end
      → marks ≡ no_marks → pairs ≡ replicate 128 blank → fault ≡ refusal_at 0 0 0 → Composed room store made parts v marks pairs fault false 0 v
  comps_start place end v marks pairs fault h e m p f =
      rw e (
      record {
        reads = reading.comps_start room store made place end 32 (items_from place 0 end) refl h.rooms h.within;
        few = h.few;
        none = f;
        passed = record { here = refl; high = omega arith; mark_room = ap length m; pair_room = ap length p; marks = refl; pairs = refl };
        rest = p;
        seen = refl;
      }
      )

  module _ (v : Items) (marks : Seq (Mark Refused)) (pairs : Seq Pair) (fault : Refusal) (first : Bool) (i : ℕ) (w : Items) (k : Composed room store made parts v marks pairs fault first i w) where
    pub comps_within : w.end ≤ made
    comps_within = k.reads.within

    count_is : length (to_come room v) ≡ i + length (to_come room w)
    count_is = passed_count (component_at room store made parts) (to_come room v) [] marks pairs i i (to_come room w) k.passed

    pub comps_fit : i ≤ 64
    comps_fit = omega (arith, count_is, k.few)

    -- what stands in the arrays is what was gathered of the components met
    gathered : (place end : ℕ) → v ≡ items_from place 0 end → (r : Refusal) (own : Result (Unit {0}) (EntryRefused Refused)) → at_entry own ≡ judged 51 store (take i marks) → r ≡ each_component room store made place end 32
        → met r (length (items room end place 0)) ≡ i
        → Components room store made place end parts (record { fault = r; count = i; first = first; own = own; pairs = pairs })
    gathered place end ev r own eo er em =
        let c : Composed room store made parts (items_from place 0 end) marks pairs fault first i w = rw ev at k in
        let n : length (take i (items room end place 0)) ≡ i = length-take-le i (items room end place 0) c.passed.high in
        record {
          fault = er;
          gathers =
              rw em
              (record {
                listed = passed_listed (component_at room store made parts) (items room end place 0) [] marks pairs i i (to_come room w) c.passed store 51 own comps_fit eo;
                pairs = rw n (sym (take-append-drop i pairs) ∙ rw (c.passed.pairs, c.rest));
                first = c.seen;
              });
        }

    module _ (step : Option (Step Items)) (h : Gives room w step) where
      -- after the loop the fault is one of those that its ways out leave
      pub comps_none : (place end : ℕ) → v ≡ items_from place 0 end → step ≡ None → (r : Refusal) (own : Result (Unit {0}) (EntryRefused Refused)) → at_entry own ≡ judged 51 store (take i marks) → r ≡ fault
          → Components room store made place end parts (record { fault = r; count = i; first = first; own = own; pairs = pairs })
      comps_none place end ev g r own eo e =
          let t : r ≡ refusal_at 0 0 0 = e ∙ k.none in
          let c : reading.Composed room store made place end 32 i w = rw ev at k.reads in
          let n : length (items room end place 0) ≡ i + length (to_come room w) = rw ev at count_is in
          gathered place end ev r own eo (reading.comps_end room store made place end 32 i w c step h r g t)
          (rw t (omega (arith, n, ap length (item_ended room w step h g))))

      pub comps_none_by : (place end : ℕ) → v ≡ items_from place 0 end → step ≡ None → (r : Refusal) (own : Result (Unit {0}) (EntryRefused Refused)) → own ≡ judged_by ComponentTwice store (take i marks) → r ≡ fault
          → Components room store made place end parts (record { fault = r; count = i; first = first; own = own; pairs = pairs })
      comps_none_by place end ev g r own eo e = comps_none place end ev g r own (by_number ComponentTwice store (take i marks) own eo) e

      module _ (given : Step Items) (g : step ≡ Some given) where
        more : to_come room w ≡ given.value ∷ to_come room given.rest
        more = (item_given room w step h given g).come

        pub comps_room : i < 64
        comps_room = omega (arith, count_is, k.few, ap length more)

        module _ (e : Entry) (d : e ≡ component_at room store made parts given.value) where
          fault_is : e.fault ≡ (parsed.component_at room store made given.value 32).fault
          unfolding component_entry
          fault_is = ap (λ (x : Entry). x.fault) d

          pub comps_not : (place end : ℕ) → v ≡ items_from place 0 end → (e.fault ≡ 0 → ⊥) → (here r : Refusal) (own : Result (Unit {0}) (EntryRefused Refused)) → at_entry own ≡ judged 51 store (take i marks)
              → here ≡ refusal_at 4 e.fault i → r ≡ here
              → Components room store made place end parts (record { fault = r; count = i; first = first; own = own; pairs = pairs })
          comps_not place end ev z here r own eo eh er =
              let c : reading.Composed room store made place end 32 i w = rw ev at k.reads in
              let t : r ≡ refusal_at 4 e.fault i = er ∙ eh in
              gathered place end ev r own eo
              (reading.comps_not room store made place end 32 i w c step h given g (parsed.component_at room store made given.value 32) refl r (rw (← fault_is) z) (rw (← fault_is) t))
              (rw (t, ne_eqb e.fault 0 z))

          pub comps_not_by : (place end : ℕ) → v ≡ items_from place 0 end → (e.fault ≡ 0 → ⊥) → (here r : Refusal) (own : Result (Unit {0}) (EntryRefused Refused)) → own ≡ judged_by ComponentTwice store (take i marks)
              → here ≡ refusal_at 4 e.fault i → r ≡ here
              → Components room store made place end parts (record { fault = r; count = i; first = first; own = own; pairs = pairs })
          comps_not_by place end ev z here r own eo eh er = comps_not place end ev z here r own (by_number ComponentTwice store (take i marks) own eo) eh er

          pub comps_on : (first' : Bool) → e.fault ≡ 0 → first' ≡ (first || e.first)
              → Composed room store made parts v (set marks i e.mark) (set pairs i e.pair) fault first' (i + 1) given.rest
          comps_on first' z f =
              let p : Passed (component_at room store made parts) (to_come room v) (given.value ∷ to_come room given.rest) [] marks pairs i i = rw more at k.passed in
              let t : take (i + 1) (to_come room v) ≡ take i (to_come room v) ++ (given.value ∷ []) = rw (add-one i) (next_taken given.value (to_come room given.rest) i (to_come room v) p.here) in
              let a : 128 - i ≡ suc (128 - (i + 1)) = omega (arith, comps_room) in
              let b : drop i pairs ≡ replicate (suc (128 - (i + 1))) blank = rw a at k.rest in
              record {
                reads = reading.comps_on room store made v.place v.end 32 i w k.reads step h given g (parsed.component_at room store made given.value 32) refl (sym fault_is ∙ z);
                few = k.few;
                none = k.none;
                passed = passed_on (component_at room store made parts) (to_come room v) [] marks pairs i i given.value (to_come room given.rest) e comps_room (omega (arith, comps_room)) d p;
                rest = drop-set-lt (i + 1) pairs i e.pair (omega arith) ∙ sym (drop-drop 1 i pairs) ∙ ap (drop 1) b;
                seen = f ∙ or_either first e.first ∙ rw (t, any_more (λ m. (component_at room store made parts m).first) (take i (to_come room v)) given.value, k.seen, d);
              }

-- ---- applications

-- applications that were met on a walk that began as v, after packages of an array that has more room
pub record Applying (room store : Seq ℕ) (made : ℕ) (ps : Seq Partition) (front : Seq Pair) (preceding : ℕ) (v : Keys) (marks : Seq (Mark Refused)) (pairs : Seq Pair) (fault : Refusal) (w : Keys) (i : ℕ) : Type 0 where
  pub low : preceding ≤ 64
  pub high : i ≤ 64
  pub reads : reading.Walking room store made 64 32 v.place v.end w fault i
  pub passed : Passed (application_at room store made ps) (walk room store v.end v.place 65 None) (walk room store v.end v.place (65 - i) w.after) front marks pairs i (preceding + i)

module _ (room store : Seq ℕ) (made : ℕ) (ps : Seq Partition) where
  -- an array in a struct is as long as its elements in the machine
  pub apps_start : {X : Type 0} (f : Pair → X) (place end : ℕ) (old : Seq Pair) (preceding : ℕ) → length (map f old) ≡ 128 → (v : Keys) (marks : Seq (Mark Refused)) (fault : Refusal)
      → Followed room made end preceding → Begins room place end None v → marks ≡ no_marks → fault ≡ refusal_at 0 0 0
      → Applying room store made ps (take preceding old) preceding v marks old fault v 0
  apps_start f place end old preceding l v marks fault h b m e =
      let z : preceding + 0 ≡ preceding = omega arith in
      record {
        low = h.low;
        high = omega arith;
        reads = reading.apps_start room store made 64 32 place end v fault b e;
        passed = record { here = rw b.after; high = omega arith; mark_room = ap length m; pair_room = sym (length-map old f) ∙ l; marks = refl; pairs = rw (z, append-nil) };
      }

  module _ (front : Seq Pair) (preceding : ℕ) (v : Keys) (marks : Seq (Mark Refused)) (pairs : Seq Pair) (fault : Refusal) (w : Keys) (i : ℕ)
      (k : Applying room store made ps front preceding v marks pairs fault w i) where
    pub apps_ready : Ready room w
    apps_ready = k.reads.count.over.ready

    pub apps_fit : i ≤ 64
    apps_fit = k.high

    pub apps_all : preceding + i ≤ 128
    apps_all = omega (arith, k.low, k.high)

    module _ (step : Option (Step Keys)) (h : KeyGives room store w step) where
      module _ (place end : ℕ) (b : Begins room place end None v) where
        here : Applying room store made ps front preceding (record { place = place; low = v.low; end = end; after = v.after }) marks pairs fault w i
        here = rw (b.over.place, b.over.end) at k

        abbrev all : Seq ℕ
        all = walk room store end place 65 None

        passed_long : length (take (preceding + i) pairs) ≡ preceding + length (take i all)
        passed_long =
            omega (arith, length-take-le (preceding + i) pairs (omega (arith, k.low, k.high, here.passed.pair_room)), length-take-le i all here.passed.high)

        -- what stands in the arrays is what was gathered of the applications met
        gathered_apps : (r : Refusal) (own : Result (Unit {0}) (EntryRefused Refused)) (at : Option ℕ) → at_entry own ≡ judged 65 store (take i marks) → at ≡ placed (length (take (preceding + i) pairs)) (first_hit (clash room store made) [] (take (preceding + i) pairs))
            → r ≡ refusal_of (listed (application_r room store made 32) in_application 64 all) → take 64 all ≡ take i all
            → Applications room store made place end ps preceding front (record { fault = r; count = i; own = own; clash = at })
        gathered_apps r own at eo ec er et =
            record {
              fault = er;
              gathers =
                  rw et
                  (record {
                    listed = passed_listed (application_at room store made ps) all front marks pairs i (preceding + i) (walk room store end place (65 - i) w.after) here.passed store 65 own k.high eo;
                    clashes = rw (passed_long, here.passed.pairs) at ec;
                  });
            }

        pub apps_none : step ≡ None → (r : Refusal) (own : Result (Unit {0}) (EntryRefused Refused)) (at : Option ℕ) → at_entry own ≡ judged 65 store (take i marks) → at ≡ placed (length (take (preceding + i) pairs)) (first_hit (clash room store made) [] (take (preceding + i) pairs)) → r ≡ fault
            → Applications room store made place end ps preceding front (record { fault = r; count = i; own = own; clash = at })
        apps_none g r own at eo ec er =
            let u : walk room store end place (65 - i) w.after ≡ [] = reading.walk_ended room store place end w here.reads.count.over step h (65 - i) g in
            let n : length all ≡ i + length (walk room store end place (65 - i) w.after) =
            passed_count (application_at room store made ps) all front marks pairs i (preceding + i) (walk room store end place (65 - i) w.after) here.passed in
            let m : length all ≡ i = omega (arith, n, ap length u) in
            gathered_apps r own at eo ec
            (er ∙ reading.apps_none room store made (record { fault = 0; place = place; end = end }) v b 64 32 w fault i k.reads step k.high h g)
            (take_all 64 all (omega (arith, m, k.high)) ∙ sym (take_all i all (omega (arith, m))))

        pub apps_none_by : step ≡ None → (r : Refusal) (own : Result (Unit {0}) (EntryRefused Refused)) (at : Option ℕ) → own ≡ judged_by ApplicationTwice store (take i marks) → at ≡ placed (length (take (preceding + i) pairs)) (first_hit (clash room store made) [] (take (preceding + i) pairs)) → r ≡ fault
            → Applications room store made place end ps preceding front (record { fault = r; count = i; own = own; clash = at })
        apps_none_by g r own at eo ec er = apps_none g r own at (by_number ApplicationTwice store (take i marks) own eo) ec er

        module _ (given : Step Keys) (g : step ≡ Some given) where
          -- one more than there may be
          pub apps_many : 64 ≤ i → (told r : Refusal) (own : Result (Unit {0}) (EntryRefused Refused)) (at : Option ℕ) → at_entry own ≡ judged 65 store (take i marks) → at ≡ placed (length (take (preceding + i) pairs)) (first_hit (clash room store made) [] (take (preceding + i) pairs))
              → told ≡ refusal_at 5 25 64 → r ≡ told
              → Applications room store made place end ps preceding front (record { fault = r; count = i; own = own; clash = at })
          apps_many l told r own at eo ec eh er =
              let t : r ≡ refusal_at 5 25 64 = er ∙ eh in
              let x : 64 ≡ i = omega (arith, k.high) in
              let more = reading.apps_on room store made 64 32 v.place v.end w fault i k.reads k.high step h given g (earlier fault (application_fault room store made 32 i given.value)) refl in
              gathered_apps r own at eo ec
              (reading.apps_many room store made (record { fault = 0; place = place; end = end }) v b 64 32 given.rest (earlier fault (application_fault room store made 32 i given.value)) (i + 1) more r (omega arith) t)
              (ap (λ (m : ℕ). take m all) x)

          pub apps_many_by : 64 ≤ i → (told r : Refusal) (own : Result (Unit {0}) (EntryRefused Refused)) (at : Option ℕ) → own ≡ judged_by ApplicationTwice store (take i marks) → at ≡ placed (length (take (preceding + i) pairs)) (first_hit (clash room store made) [] (take (preceding + i) pairs))
              → told ≡ refusal_at 5 25 64 → r ≡ told
              → Applications room store made place end ps preceding front (record { fault = r; count = i; own = own; clash = at })
          apps_many_by l told r own at eo ec eh er = apps_many l told r own at (by_number ApplicationTwice store (take i marks) own eo) ec eh er

          pub apps_stood : Followed room made end preceding → Stood room given.value
          apps_stood f = key_stands room store place end w here.reads.count.over step h given g made f.rooms f.within

      module _ (given : Step Keys) (g : step ≡ Some given) (l : i < 64) where
        pub apps_after : preceding + i < 128
        apps_after = omega (arith, k.low)

        pub apps_on : (e : Entry) (r : Refusal) → e ≡ application_at room store made ps given.value → r ≡ earlier fault (fault_at 5 e.fault i)
            → Applying room store made ps front preceding v (set marks i e.mark) (set pairs (preceding + i) e.pair) r given.rest (i + 1)
        unfolding application_entry
        apps_on e r d f =
            let x : 65 - i ≡ suc (65 - (i + 1)) = omega arith in
            let onward : walk room store v.end v.place (65 - i) w.after ≡ given.value ∷ walk room store v.end v.place (65 - (i + 1)) given.rest.after
            = rw x (reading.walk_given room store v.place v.end w k.reads.count.over step h (65 - (i + 1)) given g) in
            let p : Passed (application_at room store made ps) (walk room store v.end v.place 65 None) (given.value ∷ walk room store v.end v.place (65 - (i + 1)) given.rest.after) front marks pairs i (preceding + i)
            = rw onward at k.passed in
            let z : preceding + (i + 1) ≡ preceding + i + 1 = omega arith in
            let q : e.fault ≡ (parsed.application_at room store made given.value 32).fault = ap (λ (x : Entry). x.fault) d in
            record {
              low = k.low;
              high = omega arith;
              reads = reading.apps_on room store made 64 32 v.place v.end w fault i k.reads k.high step h given g r (rw (← q) f);
              passed = rw z (passed_on (application_at room store made ps) (walk room store v.end v.place 65 None) front marks pairs i (preceding + i) given.value (walk room store v.end v.place (65 - (i + 1)) given.rest.after) e l apps_after d p);
            }

-- ---- the first fault

module _ (fault r : Refusal) (section number place : ℕ) where
  pub fault_so_far : (fault.number ≡ 0 → ⊥) → fault ≡ earlier fault (fault_at section number place)
  fault_so_far z = rw (ne_eqb fault.number 0 z)

  pub fault_here : fault.number ≡ 0 → (number ≡ 0 → ⊥) → r ≡ refusal_at section number place → r ≡ earlier fault (fault_at section number place)
  fault_here z w e = rw (eq-eqb fault.number 0 z, ne_eqb number 0 w) e

  pub fault_none : fault.number ≡ 0 → number ≡ 0 → r ≡ refusal_at 0 0 0 → r ≡ earlier fault (fault_at section number place)
  fault_none z w e = rw (eq-eqb fault.number 0 z, eq-eqb number 0 w) e
