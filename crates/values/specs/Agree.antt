-- What the readers leave in the two rooms is what 01 says of values: the same faults, the same strings, and the value's slots.
use Prim.Native.Nat.{ℕ, zero, suc, ◌+◌, ◌-◌, ◌*◌}
use Rattle.std.specs.Prelude.{Bool, true, false, List, [], ◌∷◌, ◌≡◌, eqb, ltb, leb, length, get_or, take, drop}
use Rattle.std.proofs.Math.Path.{refl}
use Rattle.std.proofs.Common.{sym, ap, ◌∙◌, add-zero, eq-eqb, ne_eqb, length-append}
use native.Mathlib.Omega.{arith}
use Rattle.meaning.specs.Base.{pick, ascii, same, final, split, nil?}
use Rattle.meaning.specs.Refusal.{R, ok, bad, ok_then, Fault, numbered, Unmet, unmet}
use Rattle.meaning.specs.Space.{blank, trim}
use Rattle.meaning.specs.Quote.{fresh, step}
use Rattle.meaning.specs.declared.StringByte.TheVariants.{Plain}
use Rattle.meaning.specs.Strings.{Ending, closed, escape, unended, decode, if_ended}
use Rattle.meaning.specs.Integers as ints
use Rattle.meaning.specs.Integers.{signed, integer, number_of}
use Rattle.meaning.specs.declared.Signed.{Signed}
use Rattle.meaning.specs.Reading.{Got, got, failed, storing, adding, got_then, got_map, ok_then_got, make}
use Rattle.meaning.specs.Tree.{Value, Items, str, int, boolean, array, item}
use Rattle.meaning.specs.Values.{string_of, plain, separates?, nonblank, items_of, Reader, each, a_string, a_plain, one, an_array, brackets, value}
use Rattle.tree.specs.declared.Slot.{Slot}
use Rattle.laws.specs.Cases.{on, picked}
use Rattle.values.specs.Out.{Out, fine, wrong, join, and_then}
use Rattle.values.specs.Fill.{int_slot, bool_slot, array_slot, makes, string_by, string_out, int_out, plain_out, one_out, items_out, open_out, brackets_out, value_out}
use Rattle.values.specs.Layout.{spelled, spelled_all, size, layout, layouts, Tableless, AllTableless, length_layout, seen, seens, length_seens, seens_append, seen_int}

-- o is a value v that was read, of which bs is in the store and m values are made after it
pub record Lays (parent used made : ℕ) (v : Value) (bs : List ℕ) (m : ℕ) (o : Out) : Type 0 where
  pub fault : o.fault ≡ 0
  pub bytes : o.bytes ≡ bs
  pub spells : bs ≡ spelled v
  pub slots : seens o.slots ≡ layout parent used made v
  pub count : m ≡ made + length o.slots
  pub kinds : Tableless v

-- the same of the items of an array
pub record LaysAll (parent used made : ℕ) (is : Items) (bs : List ℕ) (m : ℕ) (o : Out) : Type 0 where
  pub fault : o.fault ≡ 0
  pub bytes : o.bytes ≡ bs
  pub spells : bs ≡ spelled_all is
  pub slots : seens o.slots ≡ layouts parent used made is
  pub count : m ≡ made + length o.slots
  pub kinds : AllTableless is

-- o is refused by a number of 01
pub record Refused (n : ℕ) (o : Out) : Type 0 where
  pub is : o.fault ≡ n
  pub some : n ≡ 0 → ⊥

-- o is what was read: as L says, or refused by the same number; "met by no text" are the other faults
abbrev pub Meets : {X : Type 0} → (X → List ℕ → ℕ → Out → Type 0) → Got X → Out → Type 0
Meets L (got x bs m) o = L x bs m o
Meets L (failed (numbered n)) o = Refused n o
Meets L (failed (unmet u)) o = ⊥

-- ---- a fault of an integer is 12

abbrev Twelve : {X : Type 0} → R X → Type 0
Twelve (ok x) = Unit
Twelve (bad n) = n ≡ 12

twelve_via : {X Y : Type 0} (r : R X) (f : X → R Y) → Twelve r → ((x : X) → Twelve (f x)) → Twelve (ok_then r f)
twelve_via (ok x) f h k = k x
twelve_via (bad n) f h k = h

digits_twelve : (base acc : ℕ) (s : List ℕ) → Twelve (ints.value base acc s)
digits_twelve base acc [] = tt
digits_twelve base acc (b ∷ s) =
    picked Twelve (leb base (ints.digit b)) (λ _. refl) (λ _. digits_twelve base (acc * base + ints.digit b) s)

magnitude_twelve : (neg : Bool) (base : ℕ) (s : List ℕ) → Twelve (ints.magnitude neg base s)
unfolding ints.magnitude ints.within
magnitude_twelve neg base s =
    picked Twelve (nil? s) (λ _. refl)
    (λ _. twelve_via (ints.within (ints.most neg) (ints.value base 0 s)) (λ n. ok (record { neg = neg; mag = n }))
    (twelve_via (ints.value base 0 s) (λ n. pick (ltb (ints.most neg) n) (bad 12) (ok n)) (digits_twelve base 0 s)
    (λ n. picked Twelve (ltb (ints.most neg) n) (λ _. refl) (λ _. tt)))
    (λ n. tt))

sign_twelve : (base : ℕ) (s : List ℕ) → Twelve (ints.sign base s)
unfolding ints.sign
sign_twelve base s =
    picked Twelve (eqb (get_or s 0 0) 45) (λ _. magnitude_twelve true base (drop 1 s))
    (λ _. picked Twelve (eqb (get_or s 0 0) 43) (λ _. magnitude_twelve false base (drop 1 s)) (λ _. magnitude_twelve false base s))

body_twelve : (s : List ℕ) → Twelve (ints.body s)
unfolding ints.body
body_twelve s =
    picked Twelve (eqb (get_or s 0 0) 48)
    (λ _. picked Twelve (eqb (get_or s 1 0) 120) (λ _. sign_twelve 16 (drop 2 s))
    (λ _. picked Twelve (eqb (get_or s 1 0) 88) (λ _. sign_twelve 16 (drop 2 s)) (λ _. sign_twelve 10 s)))
    (λ _. sign_twelve 10 s)

signed_twelve : (s : List ℕ) → Twelve (signed s)
unfolding signed
signed_twelve s = body_twelve (ints.clean s)

module _ (limit : ℕ) where
  -- ---- one slot

  module _ (parent used made : ℕ) where
    abbrev Says : Got Value → Out → Type 0
    Says g o = Meets (Lays parent used made) g o

    -- a value of one slot and no bytes, made within the limit
    made_meets : (v : Value) (w : Slot) → [] ≡ spelled v → seen w ∷ [] ≡ layout parent used made v → Tableless v
        → Says (storing [] (make limit v made)) (makes limit made w)
    unfolding make makes
    made_meets v w a b c =
        on (leb limit made) (λ e. rw e (record { is = refl; some = λ z. omega arith }))
        (λ e. rw e (record { fault = refl; bytes = refl; spells = a; slots = b; count = refl; kinds = c }))

    -- 8, 9, 10, then 16
    string_by_lem : (s : List ℕ) (w : Ending) (bs : List ℕ) (k : ℕ)
        → Says (ok_then_got (if_ended w (pick (blank (drop k s)) (ok bs) (bad 10))) (λ d. storing d (make limit (str d) made))) (string_by limit parent used made s w bs k)
    unfolding make
    string_by_lem s closed bs k =
        on (blank (drop k s))
        (λ p. on (leb limit made) (λ e. rw (p, e) (record { is = refl; some = λ z. omega arith }))
        (λ e. rw (p, e) (record { fault = refl; bytes = refl; spells = refl; slots = refl; count = refl; kinds = tt })))
        (λ p. rw p (record { is = refl; some = λ z. omega arith }))
    string_by_lem s escape bs k = record { is = refl; some = λ z. omega arith }
    string_by_lem s unended bs k = record { is = refl; some = λ z. omega arith }

    string_meets : (s : List ℕ) → Says (a_string limit s made) (string_out limit parent used made s)
    unfolding a_string string_of string_out
    string_meets s = string_by_lem s (decode Plain s).how (decode Plain s).bytes (decode Plain s).span

    int_by : (r : R Signed) → Twelve r
        → Says (ok_then_got (ok_then (ok_then r (λ x. ok (number_of x.neg x.mag))) (λ i. ok (int i))) (λ v. storing [] (make limit v made))) (int_out limit parent made r)
    int_by (ok x) h =
        made_meets (int (number_of x.neg x.mag)) (int_slot parent x) refl (ap (λ (w : Slot). w ∷ []) (seen_int parent x.neg x.mag)) tt
    int_by (bad n) h = record { is = refl; some = λ z. omega arith }

    plain_meets : (s : List ℕ) → Says (a_plain limit s made) (plain_out limit parent made s)
    unfolding a_plain plain plain_out integer
    plain_meets s =
        on (same s (ascii "true"))
        (λ e. rw e (made_meets (boolean true) (bool_slot parent true) refl refl tt))
        (λ e. on (same s (ascii "false"))
        (λ f. rw (e, f) (made_meets (boolean false) (bool_slot parent false) refl refl tt))
        (λ f. rw (e, f) (int_by (signed s) (signed_twelve s))))

  -- ---- items

  -- a value, and after it the other items
  module _ (parent used made : ℕ) (o : Out) where
    -- the value is read, and p are the items after it
    read_then : (p : Out) (v : Value) (bs : List ℕ) (m : ℕ) → Lays parent used made v bs m o → (g : Got Items)
        → Meets (LaysAll parent (used + length o.bytes) (made + length o.slots)) g p
        → Meets (LaysAll parent used made) (adding bs (got_map (item v) g)) (join o p)
    read_then p v bs m a (got is cs n) b =
        let x : length o.bytes ≡ length (spelled v) = ap length (a.bytes ∙ a.spells) in
        let y : length o.slots ≡ size v = sym (length_seens o.slots) ∙ ap length a.slots ∙ length_layout v parent used made in
        record {
          fault = b.fault;
          bytes = rw (a.bytes, b.bytes);
          spells = rw (a.spells, b.spells);
          slots = seens_append o.slots p.slots ∙ rw (a.slots, b.slots, x, y);
          count = b.count ∙ omega (arith, length-append o.slots p.slots);
          kinds = (a.kinds, b.kinds);
        }
    read_then p v bs m a (failed (numbered n)) b = record { is = b.is; some = b.some }
    read_then p v bs m a (failed (unmet u)) b = b

    then_meets : (k : ℕ → ℕ → Out) (rest : ℕ → Got Items) (g : Got Value) → Meets (Lays parent used made) g o
        → ((u m : ℕ) → Meets (LaysAll parent u m) (rest m) (k u m))
        → Meets (LaysAll parent used made) (got_then g (λ v m. got_map (item v) (rest m))) (and_then used made o k)
    then_meets k rest (got v bs m) a b =
        let u : ℕ = used + length o.bytes in
        let n : ℕ = made + length o.slots in
        rw (eq-eqb o.fault 0 a.fault, a.count) (read_then (k u n) v bs m a (rest n) (b u n))
    then_meets k rest (failed (numbered n)) a b = rw (ne_eqb o.fault 0 (λ z. a.some (sym a.is ∙ z))) a
    then_meets k rest (failed (unmet u)) a b = absurd a

  module _ (parent : ℕ) (read : List ℕ → Reader Value) (v : ℕ → ℕ → List ℕ → Out) (h : (u m : ℕ) (l : List ℕ) → Meets (Lays parent u m) (read l m) (v u m l)) where
    pub items_meet : (ls : List (List ℕ)) (used made : ℕ) → Meets (LaysAll parent used made) (each read (nonblank ls) made) (items_out limit v used made ls)
    items_meet [] used made =
        record { fault = refl; bytes = refl; spells = refl; slots = refl; count = sym (add-zero made); kinds = tt }
    items_meet (l ∷ ls) used made =
        on (blank l) (λ e. rw e (items_meet ls used made))
        (λ e. rw e (then_meets parent used made (v used made l) (λ u m. items_out limit v u m ls) (each read (nonblank ls)) (read l made) (h used made l) (λ u m. items_meet ls u m)))

  -- an array, and after it its items
  module _ (parent used made : ℕ) where
    boxed : (g : Got Items) (p : Out) → Meets (LaysAll (made + 2) used (made + 1)) g p
        → Meets (Lays parent used made) (got_map array g) (join (fine [] (array_slot parent ∷ [])) p)
    boxed (got is bs m) p a = record {
      fault = a.fault;
      bytes = a.bytes;
      spells = a.spells;
      slots = ap (λ (vs : List Slot). array_slot parent ∷ vs) a.slots;
      count = omega (arith, a.count);
      kinds = a.kinds;
    }
    boxed (failed (numbered n)) p a = record { is = a.is; some = a.some }
    boxed (failed (unmet u)) p a = a

  -- ---- values

  pub one_meets : (b : List ℕ → Reader Value) (bo : ℕ → ℕ → ℕ → List ℕ → Out)
      → ((parent used made : ℕ) (s : List ℕ) → Meets (Lays parent used made) (b s made) (bo parent used made s))
      → (parent used made : ℕ) (s : List ℕ) → Meets (Lays parent used made) (one limit b s made) (one_out limit bo parent used made s)
  unfolding one one_out
  one_meets b bo h parent used made s =
      on (eqb (get_or s 0 0) 34) (λ e. rw e (string_meets parent used made (drop 1 s)))
      (λ e. on (eqb (get_or s 0 0) 91) (λ f. rw (e, f) (h parent used made (drop 1 s))) (λ f. rw (e, f) (plain_meets parent used made s)))

  -- what follows a `[`, by its tests
  pub brackets_none : (parent used made : ℕ) (s : List ℕ) → brackets_out limit 0 parent used made s ≡ wrong 14 []
  unfolding brackets_out
  brackets_none parent used made s = refl

  pub brackets_by : (depth parent used made : ℕ) (s : List ℕ) → brackets_out limit (suc depth) parent used made s
      ≡ pick (eqb (final s) 93)
      (pick (leb limit made) (wrong 16 [])
      (join (fine [] (array_slot parent ∷ []))
      (items_out limit (λ u m l. one_out limit (brackets_out limit depth) (made + 2) u m (trim l)) used (made + 1) (split fresh step separates? fresh (take (length s - 1) s)))))
      (wrong 11 [])
  unfolding brackets_out open_out makes
  brackets_by depth parent used made s =
      on (eqb (final s) 93) (λ e. on (leb limit made) (λ f. rw (e, f)) (λ f. rw (e, f, add-zero))) (λ e. rw e)

  pub brackets_meet : (depth parent used made : ℕ) (s : List ℕ) → Meets (Lays parent used made) (brackets limit depth s made) (brackets_out limit depth parent used made s)
  unfolding an_array items_of make
  brackets_meet zero parent used made s = rw (brackets_none parent used made s) (record { is = refl; some = λ z. omega arith })
  brackets_meet (suc depth) parent used made s =
      rw (brackets_by depth parent used made s)
      (on (eqb (final s) 93)
      (λ e. on (leb limit made) (λ f. rw (e, f) (record { is = refl; some = λ z. omega arith }))
      (λ f. rw (e, f)
      (boxed parent used made
      (each (λ l. one limit (brackets limit depth) (trim l)) (nonblank (split fresh step separates? fresh (take (length s - 1) s))) (made + 1))
      (items_out limit (λ u m l. one_out limit (brackets_out limit depth) (made + 2) u m (trim l)) used (made + 1) (split fresh step separates? fresh (take (length s - 1) s)))
      (items_meet (made + 2) (λ l. one limit (brackets limit depth) (trim l)) (λ u m l. one_out limit (brackets_out limit depth) (made + 2) u m (trim l))
      (λ u m l. one_meets (brackets limit depth) (brackets_out limit depth) (λ p u n t. brackets_meet depth p u n t) (made + 2) u m (trim l))
      (split fresh step separates? fresh (take (length s - 1) s)) used (made + 1)))))
      (λ e. rw e (record { is = refl; some = λ z. omega arith })))

  pub value_meets : (depth parent used made : ℕ) (s : List ℕ) → Meets (Lays parent used made) (value limit depth s made) (value_out limit depth parent used made s)
  unfolding value value_out
  value_meets depth parent used made s =
      one_meets (brackets limit depth) (brackets_out limit depth) (brackets_meet depth) parent used made (trim s)

-- ---- the theorem, by fields

-- a value was read
pub record Reads (parent used made : ℕ) (g : Got Value) (o : Out) : Type 0 where
  pub it : Value
  pub is : g ≡ got it o.bytes (made + length o.slots)
  pub lays : Lays parent used made it o.bytes (made + length o.slots) o

-- what 01 says, g, and what is left in the rooms, o
pub record Agrees (parent used made : ℕ) (g : Got Value) (o : Out) : Type 0 where
  pub read : (v : Value) (bs : List ℕ) (m : ℕ) → g ≡ got v bs m → Lays parent used made v bs m o
  pub refused : (n : ℕ) → g ≡ failed (numbered n) → Refused n o
  pub told : (f : Fault) → g ≡ failed f → f ≡ numbered o.fault
  pub never : (u : Unmet) → g ≡ failed (unmet u) → ⊥
  pub fine : o.fault ≡ 0 → Reads parent used made g o
  pub wrong : (n : ℕ) → o.fault ≡ n → (n ≡ 0 → ⊥) → g ≡ failed (numbered n)

module _ (parent used made : ℕ) (o : Out) where
  abbrev Met : Got Value → Type 0
  Met g = Meets (Lays parent used made) g o

  fault_told : (f : Fault) → Met (failed f) → f ≡ numbered o.fault
  fault_told (numbered n) h = ap numbered (sym h.is)
  fault_told (unmet u) h = absurd h

  fine_reads : (g : Got Value) → Met g → o.fault ≡ 0 → Reads parent used made g o
  fine_reads (got v bs m) h z = record {
    it = v;
    is = rw (h.bytes, ← h.count);
    lays = record {
      fault = h.fault;
      bytes = refl;
      spells = h.bytes ∙ h.spells;
      slots = h.slots;
      count = refl;
      kinds = h.kinds;
    };
  }
  fine_reads (failed (numbered n)) h z = absurd (h.some (sym h.is ∙ z))
  fine_reads (failed (unmet u)) h z = absurd h

  wrong_refuses : (g : Got Value) → Met g → (n : ℕ) → o.fault ≡ n → (n ≡ 0 → ⊥) → g ≡ failed (numbered n)
  wrong_refuses (got v bs m) h n e z = absurd (z (sym e ∙ h.fault))
  wrong_refuses (failed (numbered k)) h n e z = ap (λ (i : ℕ). failed (numbered i)) (sym h.is ∙ e)
  wrong_refuses (failed (unmet u)) h n e z = absurd h

  pub by_meeting : (g : Got Value) → Meets (Lays parent used made) g o → Agrees parent used made g o
  by_meeting g h = record {
    read = λ v bs m e. rw e at h;
    refused = λ n e. rw e at h;
    told = λ f e. fault_told f (rw e at h);
    never = λ u e. rw e at h;
    fine = fine_reads g h;
    wrong = wrong_refuses g h;
  }

-- the readers of values agree with 01, for every limit, depth, parent, state and text
pub agreement : (limit depth parent used made : ℕ) (s : List ℕ)
    → Agrees parent used made (value limit depth s made) (value_out limit depth parent used made s)
agreement limit depth parent used made s =
    by_meeting parent used made (value_out limit depth parent used made s) (value limit depth s made) (value_meets limit depth parent used made s)
