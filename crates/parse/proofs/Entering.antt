-- The entries of the lists: one law for each way on and out.
use Prim.Native.Nat.{ℕ, zero, suc, ◌+◌, ◌-◌, ◌≤◌, ◌<◌}
use mathlib.Core.List.{List as Seq, [], ◌∷◌, ◌++◌, append_assoc, append-nil}
use mathlib.Core.Path.{◌≡◌, refl, sym, ap, ◌∙◌}
use native.Mathlib.Omega.{arith}
use native.Mathlib.Numerals.{add-one}
use borrow.Author.Tests.{lt-ltb, le-ltb, ne_eqb}
use lib.Dec.{eqb}
use lib.ListN.{length, take, drop, set, replicate, take-append-drop, length-set}
use lib.Seq.{length-take-le, take-suc-set, drop-set-lt, drop-drop}
use Rattle.meaning.specs.Base.{ascii}
use Rattle.meaning.specs.Refusal.{R, ok, bad, Answer, accepted, refused, numbered, accepted_then, in_partition, in_component, in_application}
use Rattle.meaning.specs.Fields.{each, listed}
use Rattle.laws.specs.Cases.{on}
use Rattle.laws.specs.Variants.{Left, others}
use Rattle.std.specs.Prelude.{Option, Some, None, unwrap_or}
use Rattle.tree.specs.declared.Value.{Value}
use Rattle.tree.specs.declared.Value.TheVariants as values
use Rattle.tree.specs.declared.Fields.{Fields}
use Rattle.tree.specs.declared.Span.{Span}
use Rattle.tree.specs.declared.Step.{Step}
use Rattle.tree.specs.declared.Items.{Items}
use Rattle.tree.specs.declared.Keys.{Keys}
use Rattle.tree.specs.Room.{Holds, Finds, Counts}
use Rattle.tree.specs.Doors.{Rooms, Stood, Spread, field, fields_of, value_at, items, nth_of}
use Rattle.tree.specs.Spans.{spread_fields, items_count}
use Rattle.tree.specs.contracts.Value.{enum}
use Rattle.tree.specs.Steps.{
  items_from,
  to_come,
  Given,
  Gives,
  item_given,
  item_ended,
  key_at,
  Over,
  Begins,
  KeyGives,
  key_given,
  key_ended,
  key_stands,
}
use Rattle.schema.specs.declared.Text.TheVariants as texts
use Rattle.schema.specs.declared.Partition.{Partition}
use Rattle.schema.specs.Texts.{start_of, length_of}
use Rattle.parse.specs.declared.Refusal.{Refusal}
use Rattle.parse.specs.declared.front.TableRead.{TableRead}
use Rattle.parse.specs.declared.field.TextRead.{TextRead}
use Rattle.parse.specs.declared.field.NumberRead.{NumberRead}
use Rattle.parse.specs.declared.field.FlagRead.{FlagRead}
use Rattle.parse.specs.declared.entry.List.{List}
use Rattle.parse.specs.declared.entry.PartitionRead.{PartitionRead}
use Rattle.parse.specs.declared.entry.Partitions.{Partitions}
use Rattle.parse.specs.declared.component.ComponentRead.{ComponentRead}
use Rattle.parse.specs.declared.application.ApplicationRead.{ApplicationRead}
use Rattle.parse.specs.Refusals.{earlier}
use Rattle.parse.specs.Fields.{first_fault, missing, text_needed, number_needed, flag_at}
use Rattle.parse.specs.Front.{no_table}
use Rattle.parse.specs.Component.{component_read}
use Rattle.parse.specs.Application.{application_read}
use Rattle.parse.specs.Entries.{
  Among,
  Few,
  Keyed,
  NoPartitions,
  Partitioned,
  no_list,
  list_of,
  or_other,
  list_at,
  keys_of,
  keys_at,
  entry_table,
  as_r,
  refusal_at,
  refusal_of,
  partition_read,
  partition_at,
  partition_r,
  each_partition,
  partitions,
  component_at,
  component_r,
  each_component,
  components,
  application_at,
  application_r,
  application_fault,
  applications,
  walk,
  nth_key,
  blank,
}
use Rattle.parse.proofs.Fielding.{missing_not}

-- ---- where a list stands

module _ (made : ℕ) (v w : Value) (e : v ≡ w) where
  pub list_is : (r : List) → r ≡ list_of made w → r ≡ list_of made v
  list_is r h = rw e h

  pub keys_are : (r : List) → r ≡ keys_of made w → r ≡ keys_of made v
  keys_are r h = rw e h

-- a value of another kind
module _ (made : ℕ) (v : Value) where
  pub list_not : (r : List) → Left enum (1 ∷ 2 ∷ 3 ∷ 5 ∷ []) v → r ≡ no_list 20 → r ≡ list_of made v
  list_not r o h = h ∙ others enum (λ w. no_list 20 ≡ list_of made w) (1 ∷ 2 ∷ 3 ∷ 5 ∷ []) (λ _. refl) (λ _. refl) (λ _. refl) (λ _. refl) v o

  pub keys_not : (r : List) → Left enum (1 ∷ 2 ∷ 3 ∷ 4 ∷ []) v → r ≡ no_list 20 → r ≡ keys_of made v
  keys_not r o h = h ∙ others enum (λ w. no_list 20 ≡ keys_of made w) (1 ∷ 2 ∷ 3 ∷ 4 ∷ []) (λ _. refl) (λ _. refl) (λ _. refl) (λ _. refl) v o

-- what is not missing is its own first choice
own : (v w : Value) → 0 ≡ missing v → or_other v w ≡ v
own values.Absent w e = absurd (omega (arith, e))
own (values.Text from len) w e = refl
own (values.Number n m) w e = refl
own (values.Flag b) w e = refl
own (values.Array p) w e = refl
own (values.Table p) w e = refl

module _ (room store : Seq ℕ) (made : ℕ) (root : Fields) where
  module _ (one many : Seq ℕ) (v : Value) (r : List) (e : v ≡ field room store root one) where
    pub list_other : (w : Value) → v ≡ values.Absent → w ≡ field room store root many → r ≡ list_of made w → r ≡ list_at room store made root one many
    list_other w a g h = rw (← e, a, ← g) h

    pub list_one : Left enum (1 ∷ 2 ∷ 3 ∷ 4 ∷ 5 ∷ []) v → r ≡ list_of made v → r ≡ list_at room store made root one many
    list_one o h = rw (← e, own v (field room store root many) (missing_not v o)) h

  pub keys_at_lem : (v : Value) (r : List) → v ≡ field room store root (ascii "apps") → r ≡ keys_of made v → r ≡ keys_at room store made root
  keys_at_lem v r e h = rw (← e) h

-- ---- an entry

module _ (room : Seq ℕ) (made : ℕ) (v : Value) where
  pub table_not : (r : TableRead) → Left enum (0 ∷ 1 ∷ 2 ∷ 3 ∷ 4 ∷ []) v → r ≡ no_table 23 → r ≡ entry_table room made v
  table_not r o h = h ∙ others enum (λ w. no_table 23 ≡ entry_table room made w) (0 ∷ 1 ∷ 2 ∷ 3 ∷ 4 ∷ []) (λ _. refl) (λ _. refl) (λ _. refl) (λ _. refl) (λ _. refl) v o

  pub table_is : (place : ℕ) (f : Fields) → v ≡ values.Table place → f ≡ fields_of room made place → record { fault = 0; fields = f } ≡ entry_table room made v
  table_is place f e h = rw (e, h)

none_spread : (room : Seq ℕ) → Spread room (record { place = 0; from = 0; to = 0 })
none_spread room = record { order = omega arith; fits = record { fits = omega arith }; low = omega arith }

entry_spread : (room : Seq ℕ) (made : ℕ) (v : Value) → Rooms room made → Spread room (entry_table room made v).fields
entry_spread room made values.Absent h = none_spread room
entry_spread room made (values.Text from len) h = none_spread room
entry_spread room made (values.Number n m) h = none_spread room
entry_spread room made (values.Flag b) h = none_spread room
entry_spread room made (values.Array p) h = none_spread room
entry_spread room made (values.Table p) h = spread_fields room made p h.fits h.low

pub table_spread : (room : Seq ℕ) (made : ℕ) (v : Value) (t : TableRead) → Rooms room made → t ≡ entry_table room made v → Spread room t.fields
table_spread room made v t h e = rw e (entry_spread room made v h)

module _ (room store : Seq ℕ) where
  pub partition_is : (f : Fields) (n : TextRead) (o s : NumberRead) (l : FlagRead) (last late all from len offset size : ℕ)
      → n ≡ text_needed room store f (ascii "name") → o ≡ number_needed room store f (ascii "offset") → s ≡ number_needed room store f (ascii "size")
      → l ≡ flag_at room store f (ascii "locked")
      → last ≡ first_fault s.fault l.fault → late ≡ first_fault o.fault last → all ≡ first_fault n.fault late
      → from ≡ start_of n.text → len ≡ length_of n.text → offset ≡ unwrap_or o.number 0 → size ≡ unwrap_or s.number 0
      → record { fault = all; partition = record { from = from; len = len; offset = offset; size = size; locked = l.flag } } ≡ partition_read room store f
  unfolding partition_read
  partition_is f n o s l last late all from len offset size e1 e2 e3 e4 e5 e6 e7 e8 e9 e10 e11 = rw (e7, e6, e5, e8, e9, e10, e11, e1, e2, e3, e4)

  module _ (made n : ℕ) (v : Value) (t : TableRead) (e1 : v ≡ value_at room store n) (e2 : t ≡ entry_table room made v) (all : ℕ) where
    pub partition_at_lem : (p : PartitionRead) → p ≡ partition_read room store t.fields → all ≡ first_fault t.fault p.fault
        → record { fault = all; partition = p.partition } ≡ partition_at room store made n
    unfolding partition_at
    partition_at_lem p e3 e4 = rw (e4, e3, e2, e1)

    pub component_at_lem : (limit : ℕ) (c : ComponentRead) → c ≡ component_read room store made t.fields limit → all ≡ first_fault t.fault c.fault
        → record { fault = all; component = c.component } ≡ component_at room store made n limit
    unfolding component_at
    component_at_lem limit c e3 e4 = rw (e4, e3, e2, e1)

    pub application_at_lem : (limit : ℕ) (s : Span) (a : ApplicationRead) → s ≡ key_at room n
        → a ≡ application_read room store made t.fields (texts.Stored s.from s.len) limit → all ≡ first_fault t.fault a.fault
        → record { fault = all; application = a.application } ≡ application_at room store made n limit
    unfolding application_at
    application_at_lem limit s a e3 e4 e5 = rw (e5, e4, e3, e2, e1)

-- ---- entry after entry

module _ {X : Type 0} where
  good : (fault : ℕ) (x : X) → fault ≡ 0 → as_r fault x ≡ ok x
  good fault x e = rw e

  wrong : (fault : ℕ) (x : X) → (fault ≡ 0 → ⊥) → as_r fault x ≡ bad fault
  wrong fault x h = rw (ne_eqb fault 0 h)

  kept : (x : X) (a : Answer (Seq X)) → refusal_of (accepted_then a (λ xs. accepted (x ∷ xs))) ≡ refusal_of a
  kept x (accepted xs) = refl
  kept x (refused f s p) = refl

  module _ (read : ℕ → R X) (section i n : ℕ) (ns : Seq ℕ) where
    each_good : (x : X) → read n ≡ ok x → refusal_of (each read section i (n ∷ ns)) ≡ refusal_of (each read section (i + 1) ns)
    each_good x e = rw e (kept x (each read section (i + 1) ns))

    each_wrong : (fault : ℕ) → read n ≡ bad fault → refusal_of (each read section i (n ∷ ns)) ≡ refusal_at section fault i
    each_wrong fault e = rw e

-- ---- all components

pub holds_end : (room : Seq ℕ) (made end : ℕ) → Rooms room made → end ≤ made → Holds room end
holds_end room made end h l = record { fits = omega (arith, h.fits.fits) }

pub record Composed (room store : Seq ℕ) (made place end limit i : ℕ) (w : Items) : Type 0 where
  pub low : i ≤ w.at
  pub high : w.at ≤ made
  pub within : w.end ≤ made
  pub most : made ≤ 65000
  pub left : each_component room store made place end limit ≡ refusal_of (each (component_r room store made limit) in_component i (to_come room w))

module _ (room store : Seq ℕ) (made place end limit : ℕ) where
  pub comps_start : (w : Items) → w ≡ items_from place 0 end → Rooms room made → end ≤ made → Composed room store made place end limit 0 w
  comps_start w e r l = rw e (record { low = omega arith; high = omega arith; within = l; most = r.low; left = refl })

  module _ (i : ℕ) (w : Items) (k : Composed room store made place end limit i w) where
    module _ (step : Option (Step Items)) (h : Gives room w step) where
      pub comps_end : (r : Refusal) → step ≡ None → r ≡ refusal_at 0 0 0 → r ≡ each_component room store made place end limit
      comps_end r g e = e ∙ sym (rw (item_ended room w step h g) at k.left)

      module _ (given : Step Items) (g : step ≡ Some given) (c : ComponentRead) (e : c ≡ component_at room store made given.value limit) where
        next : Given room w given
        next = item_given room w step h given g

        pub comps_not : (r : Refusal) → (c.fault ≡ 0 → ⊥) → r ≡ refusal_at 4 c.fault i → r ≡ each_component room store made place end limit
        comps_not r f t =
            let q : as_r c.fault c.component ≡ bad c.fault = wrong c.fault c.component f in
            let p : component_r room store made limit given.value ≡ bad c.fault = rw (← e) q in
            t
            ∙ sym (each_wrong (component_r room store made limit) in_component i given.value (to_come room given.rest) c.fault p)
            ∙ sym (rw next.come at k.left)

        pub comps_on : c.fault ≡ 0 → Composed room store made place end limit (i + 1) given.rest
        comps_on f =
            let q : as_r c.fault c.component ≡ ok c.component = good c.fault c.component f in
            let p : component_r room store made limit given.value ≡ ok c.component = rw (← e) q in
            record {
              low = omega (arith, k.low, next.on);
              high = omega (arith, next.within, k.within);
              within = omega (arith, next.end, k.within);
              most = k.most;
              left = rw next.come at k.left
                  ∙ each_good (component_r room store made limit) in_component i given.value (to_come room given.rest) c.component p;
            }

-- ---- all partitions

module _ {X : Type 0} where
  -- nothing in front changes nothing
  bare : (a : Answer (Seq X)) → a ≡ accepted_then a (λ ys. accepted ys)
  bare (accepted ys) = refl
  bare (refused f s p) = refl

  -- one in front, and some in front of it
  fronted : (qs : Seq X) (x : X) (a : Answer (Seq X))
      → accepted_then (accepted_then a (λ ys. accepted (x ∷ ys))) (λ ys. accepted (qs ++ ys)) ≡ accepted_then a (λ ys. accepted ((qs ++ (x ∷ [])) ++ ys))
  fronted qs x (accepted ys) = rw append_assoc
  fronted qs x (refused f s p) = refl

pub record Filled (room store : Seq ℕ) (made place end : ℕ) (xs : Seq Partition) (i : ℕ) (w : Items) : Type 0 where
  pub within : w.end ≤ made
  pub size : length xs ≡ 32
  pub few : i + length (to_come room w) ≤ 32
  pub rest : drop i xs ≡ replicate (32 - i) blank
  pub left : each_partition room store made place end
      ≡ accepted_then (each (partition_r room store made) in_partition i (to_come room w)) (λ ys. accepted (take i xs ++ ys))

module _ (room store : Seq ℕ) (made place end : ℕ) where
  pub parts_start : (xs : Seq Partition) (w : Items) → Few room made place end → xs ≡ replicate 32 blank → w ≡ items_from place 0 end
      → Filled room store made place end xs 0 w
  parts_start xs w h e d =
      rw d (
      record {
        within = h.within;
        size = ap length e;
        few = omega (arith, h.few);
        rest = e;
        left = bare (each_partition room store made place end);
      }
      )

  module _ (xs : Seq Partition) (i : ℕ) (w : Items) (k : Filled room store made place end xs i w) (step : Option (Step Items)) (h : Gives room w step) where
    -- no item is left
    pub parts_end : (t : Refusal) → t ≡ refusal_at 0 0 0 → step ≡ None
        → Partitioned (each_partition room store made place end) (record { fault = t; count = i; items = xs })
    parts_end t e g =
        let a : each_partition room store made place end ≡ accepted (take i xs ++ []) = rw (item_ended room w step h g) at k.left in
        let b : each_partition room store made place end ≡ accepted (take i xs) = rw append-nil at a in
        let n : length (take i xs) ≡ i = length-take-le i xs (omega (arith, k.size, k.few)) in
        let u : xs ≡ take i xs ++ replicate (32 - i) blank = sym (take-append-drop i xs) ∙ ap (λ (ys : Seq Partition). take i xs ++ ys) k.rest in
        rw (b, n) (e, refl, omega (arith, k.few), u)

    module _ (given : Step Items) (g : step ≡ Some given) where
      more : to_come room w ≡ given.value ∷ to_come room given.rest
      more = (item_given room w step h given g).come

      pub parts_room : i < 32
      parts_room = omega (arith, k.few, ap length more)

      module _ (p : PartitionRead) (e : p ≡ partition_at room store made given.value) where
        pub parts_not : (r : Partitions) → (p.fault ≡ 0 → ⊥) → NoPartitions (refusal_at 3 p.fault i) r → Partitioned (each_partition room store made place end) r
        parts_not r f t =
            let q : as_r p.fault p.partition ≡ bad p.fault = wrong p.fault p.partition f in
            let b : partition_r room store made given.value ≡ bad p.fault = rw (← e) q in
            let a : each_partition room store made place end ≡ refused (numbered p.fault) 3 i
            = rw (more, b) at k.left in
            rw a t

        pub parts_on : p.fault ≡ 0 → Filled room store made place end (set xs i p.partition) (i + 1) given.rest
        parts_on f =
            let q : as_r p.fault p.partition ≡ ok p.partition = good p.fault p.partition f in
            let b : partition_r room store made given.value ≡ ok p.partition = rw (← e) q in
            let d : 32 - i ≡ suc (32 - (i + 1)) = omega (arith, parts_room) in
            let v : drop i xs ≡ replicate (suc (32 - (i + 1))) blank = rw d at k.rest in
            let l : i < length xs = omega (arith, parts_room, k.size) in
            let u : take (i + 1) (set xs i p.partition) ≡ take i xs ++ (p.partition ∷ []) = rw add-one (take-suc-set xs i p.partition l) in
            record {
              within = omega (arith, (item_given room w step h given g).end, k.within);
              size = length-set xs i p.partition ∙ k.size;
              few = omega (arith, k.few, ap length more);
              rest = drop-set-lt (i + 1) xs i p.partition (omega arith) ∙ sym (drop-drop 1 i xs) ∙ ap (drop 1) v;
              left = rw (more, b) at k.left
                  ∙ fronted (take i xs) p.partition (each (partition_r room store made) in_partition (i + 1) (to_come room given.rest))
                  ∙ rw u;
            }

-- ---- a list's length before its entries

module _ (room store : Seq ℕ) (made n : ℕ) (l : List) (h : Counts room l.end l.place n) where
  counted : length (items room l.end l.place 0) ≡ n
  counted = items_count room l.end l.place ∙ sym h.is

  module _ (most limit : ℕ) (r : Refusal) where
    pub comps_many : most < n → r ≡ refusal_at 4 25 most → r ≡ components room store made l most limit
    unfolding listed
    comps_many g e = rw (counted, lt-ltb most n g) e

    pub comps_few : n ≤ most → r ≡ each_component room store made l.place l.end limit → r ≡ components room store made l most limit
    unfolding listed
    comps_few g e = rw (counted, le-ltb most n g) e

  pub parts_few : (limit : ℕ) → Among room made l → limit ≤ 32 → n ≤ limit → Few room made l.place l.end
  parts_few limit a k g = record { rooms = a.rooms; within = a.end; few = omega (arith, counted) }

  module _ (limit : ℕ) (r : Partitions) where
    pub parts_many : limit < n → NoPartitions (refusal_at 3 25 limit) r → Partitioned (partitions room store made l limit) r
    unfolding listed
    parts_many g e = rw (counted, lt-ltb limit n g) e

    pub parts_each : n ≤ limit → Partitioned (each_partition room store made l.place l.end) r → Partitioned (partitions room store made l limit) r
    unfolding listed
    parts_each g e = rw (counted, le-ltb limit n g) e

-- ---- keys in byte order

-- what a walk has still to give, at most k of them, by what a step says
module _ (room store : Seq ℕ) (place end : ℕ) (w : Keys) (o : Over room place end w) (step : Option (Step Keys)) (h : KeyGives room store w step) where
  pub walk_ended : (k : ℕ) → step ≡ None → walk room store end place k w.after ≡ []
  walk_ended zero e = refl
  walk_ended (suc k) e = rw (key_ended room store place end w o step h e)

  pub walk_given : (k : ℕ) (given : Step Keys) → step ≡ Some given
      → walk room store end place (suc k) w.after ≡ given.value ∷ walk room store end place k given.rest.after
  walk_given k given e = let g = key_given room store place end w o step h given e in rw (g.next, g.after)

-- a walk is over the keys that it is over
over_itself : (room : Seq ℕ) (place end : ℕ) (w : Keys) → Over room place end w → Over room w.place w.end w
over_itself room place end w o = record { ready = o.ready; place = refl; end = refl }

-- n keys are counted
pub record Counted (room store : Seq ℕ) (place end most : ℕ) (w : Keys) (n : ℕ) : Type 0 where
  pub over : Over room place end w
  pub high : n ≤ most + 1
  pub left : length (walk room store end place (most + 1) None) ≡ n + length (walk room store end place (most + 1 - n) w.after)

module _ (room store : Seq ℕ) (place end most : ℕ) (w : Keys) where
  pub count_start : Begins room place end None w → Counted room store w.place w.end most w 0
  count_start b =
      let d : most + 1 - 0 ≡ most + 1 = omega arith in
      record { over = over_itself room place end w b.over; high = omega arith; left = rw (d, b.after) (omega arith) }

  module _ (n : ℕ) (k : Counted room store place end most w n) where
    pub count_on : (given : Step Keys) (step : Option (Step Keys)) → n ≤ most → KeyGives room store w step → step ≡ Some given
        → Counted room store place end most given.rest (n + 1)
    count_on given step l h e =
        let d : most + 1 - n ≡ suc (most + 1 - (n + 1)) = omega arith in
        let v : walk room store end place (most + 1 - n) w.after ≡ given.value ∷ walk room store end place (most + 1 - (n + 1)) given.rest.after
        = rw d (walk_given room store place end w k.over step h (most + 1 - (n + 1)) given e) in
        record {
          over = (key_given room store place end w k.over step h given e).over;
          high = omega arith;
          left = omega (arith, k.left, ap length v);
        }

module _ (room store : Seq ℕ) (l : List) (v : Keys) (b : Begins room l.place l.end None v)
    (most : ℕ) (w : Keys) (n : ℕ) (c : Counted room store v.place v.end most w n) where
  counted_keys : Counted room store l.place l.end most w n
  counted_keys = rw (b.over.place, b.over.end) at c

  pub count_none : (step : Option (Step Keys)) → KeyGives room store w step → step ≡ None → Keyed room store l most n
  count_none step h e =
      let u : walk room store l.end l.place (most + 1 - n) w.after ≡ []
      = walk_ended room store l.place l.end w counted_keys.over step h (most + 1 - n) e in
      record { is = omega (arith, counted_keys.left, ap length u); fits = counted_keys.high }

  pub count_full : most < n → Keyed room store l most n
  count_full g =
      let d : most + 1 - n ≡ 0 = omega arith in
      let u : walk room store l.end l.place (most + 1 - n) w.after ≡ [] = rw d in
      record { is = omega (arith, counted_keys.left, ap length u); fits = counted_keys.high }

-- ---- one key by its number

pub record Nearing (room store : Seq ℕ) (place end i : ℕ) (w : Keys) (left : ℕ) : Type 0 where
  pub over : Over room place end w
  pub is : nth_of (walk room store end place (i + 1) None) i ≡ nth_of (walk room store end place (left + 1) w.after) left

pub nth_start : (room store : Seq ℕ) (place end i : ℕ) (w : Keys) → Begins room place end None w
    → Nearing room store w.place w.end i w i
nth_start room store place end i w b = record { over = over_itself room place end w b.over; is = rw b.after }

module _ (room store : Seq ℕ) (place end i : ℕ) (w : Keys) (left : ℕ) (k : Nearing room store place end i w left)
    (step : Option (Step Keys)) (h : KeyGives room store w step) (given : Step Keys) (e : step ≡ Some given) where
  onward_is : nth_of (walk room store end place (i + 1) None) i ≡ nth_of (given.value ∷ walk room store end place left given.rest.after) left
  onward_is =
      let v : walk room store end place (left + 1) w.after ≡ given.value ∷ walk room store end place left given.rest.after
      = rw (add-one left) (walk_given room store place end w k.over step h left given e) in
      rw v at k.is

  pub nth_on : (left ≡ 0 → ⊥) → Nearing room store place end i given.rest (left - 1)
  nth_on f =
      let d : left ≡ suc (left - 1) = omega arith in
      let z : left - 1 + 1 ≡ left = omega arith in
      record {
        over = (key_given room store place end w k.over step h given e).over;
        is = rw z (onward_is ∙ ap (λ (j : ℕ). nth_of (given.value ∷ walk room store end place left given.rest.after) j) d);
      }

module _ (room store : Seq ℕ) (l : List) (v : Keys) (b : Begins room l.place l.end None v)
    (i : ℕ) (w : Keys) (left : ℕ) (c : Nearing room store v.place v.end i w left) (step : Option (Step Keys)) (h : KeyGives room store w step) where
  nearing_key : Nearing room store l.place l.end i w left
  nearing_key = rw (b.over.place, b.over.end) at c

  pub nth_none : step ≡ None → Finds 0 l.end (nth_key room store l i) None
  nth_none e =
      let u : walk room store l.end l.place (left + 1) w.after ≡ []
      = walk_ended room store l.place l.end w nearing_key.over step h (left + 1) e in
      record { is = sym (rw u at nearing_key.is); from = tt; below = tt }

  pub nth_hit : (given : Step Keys) → step ≡ Some given → left ≡ 0 → Finds 0 l.end (nth_key room store l i) (Some given.value)
  nth_hit given e z =
      record {
        is = sym (rw z at (onward_is room store l.place l.end i w left nearing_key step h given e));
        from = omega arith;
        below = (key_given room store l.place l.end w nearing_key.over step h given e).below;
      }

-- ---- all applications

earlier_both : (a b c : Refusal) → earlier a (earlier b c) ≡ earlier (earlier a b) c
earlier_both a b c = on (eqb a.number 0) (λ e. rw e) (λ e. rw (e, e))

-- a refusal that says nothing else where it is none
abbrev Plain : Refusal → Type 0
Plain a = earlier a (refusal_at 0 0 0) ≡ a

module _ (room store : Seq ℕ) (made limit i n : ℕ) where
  fault_plain : Plain (application_fault room store made limit i n)
  fault_plain = let f = (application_at room store made n limit).fault in on (eqb f 0) (λ e. rw e) (λ e. rw (e, e))

  -- the first entry before those after it
  each_fault : (ns : Seq ℕ)
      → refusal_of (each (application_r room store made limit) in_application i (n ∷ ns))
      ≡ earlier (application_fault room store made limit i n) (refusal_of (each (application_r room store made limit) in_application (i + 1) ns))
  each_fault ns =
      let a = application_at room store made n limit in
      on (eqb a.fault 0)
      (λ e. rw e (kept a.application (each (application_r room store made limit) in_application (i + 1) ns)))
      (λ e. rw (e, e))

  module _ (fault : Refusal) where
    pub fault_so_far : (fault.number ≡ 0 → ⊥) → fault ≡ earlier fault (application_fault room store made limit i n)
    fault_so_far f = rw (ne_eqb fault.number 0 f)

    module _ (r : Refusal) (z : fault.number ≡ 0) (a : ApplicationRead) (g : a ≡ application_at room store made n limit) where
      pub fault_here : (a.fault ≡ 0 → ⊥) → r ≡ refusal_at 5 a.fault i → r ≡ earlier fault (application_fault room store made limit i n)
      fault_here f e = rw (z, ← g, ne_eqb a.fault 0 f) e

      pub fault_none : a.fault ≡ 0 → r ≡ refusal_at 0 0 0 → r ≡ earlier fault (application_fault room store made limit i n)
      fault_none f e = rw (z, ← g, f) e

pub record Walking (room store : Seq ℕ) (made most limit place end : ℕ) (w : Keys) (fault : Refusal) (i : ℕ) : Type 0 where
  pub count : Counted room store place end most w i
  pub plain : Plain fault
  pub left : refusal_of (each (application_r room store made limit) in_application 0 (walk room store end place (most + 1) None))
      ≡ earlier fault (refusal_of (each (application_r room store made limit) in_application i (walk room store end place (most + 1 - i) w.after)))

module _ (room store : Seq ℕ) (made most limit place end : ℕ) (w : Keys) (fault : Refusal) where
  pub apps_start : Begins room place end None w → fault ≡ refusal_at 0 0 0 → Walking room store made most limit w.place w.end w fault 0
  apps_start b e =
      let d : most + 1 - 0 ≡ most + 1 = omega arith in
      record { count = count_start room store place end most w b; plain = rw e; left = rw (d, e, b.after) }

  module _ (i : ℕ) (k : Walking room store made most limit place end w fault i) (l : i ≤ most)
      (step : Option (Step Keys)) (h : KeyGives room store w step) (given : Step Keys) (g : step ≡ Some given) where
    pub apps_on : (r : Refusal) → r ≡ earlier fault (application_fault room store made limit i given.value) → Walking room store made most limit place end given.rest r (i + 1)
    apps_on r e =
        let d : most + 1 - i ≡ suc (most + 1 - (i + 1)) = omega arith in
        let v : walk room store end place (most + 1 - i) w.after ≡ given.value ∷ walk room store end place (most + 1 - (i + 1)) given.rest.after
        = rw d (walk_given room store place end w k.count.over step h (most + 1 - (i + 1)) given g) in
        let ns = walk room store end place (most + 1 - (i + 1)) given.rest.after in
        let here = application_fault room store made limit i given.value in
        let late = refusal_of (each (application_r room store made limit) in_application (i + 1) ns) in
        record {
          count = count_on room store place end most w i k.count given step l h g;
          plain = rw e (sym (earlier_both fault here (refusal_at 0 0 0)) ∙ ap (earlier fault) (fault_plain room store made limit i given.value));
          left = rw e (rw v at k.left ∙ ap (earlier fault) (each_fault room store made limit i given.value ns) ∙ earlier_both fault here late);
        }

module _ (room store : Seq ℕ) (made : ℕ) (l : List) (v : Keys) (b : Begins room l.place l.end None v)
    (most limit : ℕ) (w : Keys) (fault : Refusal) (i : ℕ) (c : Walking room store made most limit v.place v.end w fault i) where
  walked_keys : Walking room store made most limit l.place l.end w fault i
  walked_keys = rw (b.over.place, b.over.end) at c

  pub apps_stood : (step : Option (Step Keys)) (given : Step Keys) → Among room made l → KeyGives room store w step → step ≡ Some given → Stood room given.value
  apps_stood step given a h g = key_stands room store l.place l.end w walked_keys.count.over step h given g made a.rooms a.end

  pub apps_none : (step : Option (Step Keys)) → i ≤ most → KeyGives room store w step → step ≡ None → fault ≡ applications room store made l most limit
  unfolding listed
  apps_none step a h g =
      let n : Keyed room store l most i = count_none room store l v b most w i c.count step h g in
      let u : walk room store l.end l.place (most + 1 - i) w.after ≡ []
      = walk_ended room store l.place l.end w walked_keys.count.over step h (most + 1 - i) g in
      rw (← n.is, le-ltb most i a) (sym walked_keys.plain ∙ sym (rw u at walked_keys.left))

  pub apps_many : (r : Refusal) → most < i → r ≡ refusal_at 5 25 most → r ≡ applications room store made l most limit
  unfolding listed
  apps_many r a e =
      let n : Keyed room store l most i = count_full room store l v b most w i c.count a in
      rw (← n.is, lt-ltb most i a) e
