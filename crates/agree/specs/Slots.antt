-- The log of a list of slots: one more slot, a slot hung up, and the search for a key.
use Rattle.std.specs.Prelude.{ℕ, zero, suc, ◌+◌, ◌≤◌, ◌<◌, List, [], ◌∷◌, ◌++◌, Bool, true, ◌≡◌, eqb, ltb, length, get_or, set, Option, Some, None}
use Rattle.std.proofs.Math.Path.{refl}
use Rattle.std.proofs.Common.{sym, ap, ◌∙◌, arith, add-zero, length-append, length-set, get_or-set_same, get_or-set_other}
use Rattle.std.proofs.Math.ListN.{get_or-append}
use Rattle.std.proofs.Math.Seq.{get_or-append_seam}
use borrow.Author.Tests.{eqb-true, eqb-false, eq-eqb, le-leb, ltb-true, ltb-false}
use Rattle.meaning.specs.Base.{pick, part}
use Rattle.laws.specs.Cases.{on}
use Rattle.laws.specs.Never.{same_refl}
use Rattle.tree.specs.declared.Slot.{Slot}
use Rattle.tree.specs.Room.{keyed, hung}
use Rattle.values.specs.Grow.{Seg, void, mine_s, look_s}
use Rattle.agree.specs.Key.{Key, name, index}
use Rattle.agree.specs.Log.{Log, top, kind_at, count, test, child, top_same, Hung}

abbrev pub log_of : List Slot → Log
log_of vs = record { at = λ n. get_or vs n void; size = length vs }

pub get_d_beyond : (vs : List Slot) (n : ℕ) → length vs ≤ n → get_or vs n void ≡ void
get_d_beyond [] n l = refl
get_d_beyond (v ∷ vs) zero l = absurd (omega arith)
get_d_beyond (v ∷ vs) (suc n) l = get_d_beyond vs n (omega arith)

pub parent_beyond : (vs : List Slot) (n : ℕ) → length vs ≤ n → (get_or vs n void).parent ≡ 0
parent_beyond vs n l = ap (λ (v : Slot). v.parent) (get_d_beyond vs n l)

pub length_more : (vs : List Slot) (s : Slot) → length (vs ++ (s ∷ [])) ≡ length vs + 1
length_more vs s = length-append vs (s ∷ [])

pub get_or_more : (vs : List Slot) (s : Slot) (m : ℕ) → (m ≡ length vs → ⊥) → get_or (vs ++ (s ∷ [])) m void ≡ get_or vs m void
get_or_more vs s m d =
    on (ltb m (length vs))
    (λ t. get_or-append vs (s ∷ []) void m (ltb-true m (length vs) t))
    (λ t. let l : length vs ≤ m = ltb-false m (length vs) t in
    get_d_beyond (vs ++ (s ∷ [])) m (omega (arith, length_more vs s)) ∙ sym (get_d_beyond vs m l))

pub get_or_last : (vs : List Slot) (s : Slot) → get_or (vs ++ (s ∷ [])) (length vs) void ≡ s
get_or_last vs s = get_or-append_seam vs s [] void

-- ---- one more slot

count_more : (vs : List Slot) (s : Slot) (m p : ℕ) → m ≤ length vs → count (log_of (vs ++ (s ∷ []))) m p ≡ count (log_of vs) m p
count_more vs s zero p l = refl
count_more vs s (suc m) p l = rw (get_or_more vs s m (λ e. omega arith), count_more vs s m p (omega arith))

kind_more : (vs : List Slot) (s : Slot) (p : ℕ) → (p ≡ length vs + 2 → ⊥) → kind_at (log_of (vs ++ (s ∷ []))) p ≡ kind_at (log_of vs) p
kind_more vs s zero d = refl
kind_more vs s (suc zero) d = refl
kind_more vs s (suc (suc m)) d = ap (λ (v : Slot). v.kind) (get_or_more vs s m (λ e. d (omega arith)))

-- the slot may hang under p with the key: a table and the key's bytes, or an array and the place after its items
abbrev pub Fit : List ℕ → List Slot → Slot → ℕ → Key → Type 0
Fit bytes vs s p (name k) = (kind_at (log_of vs) p ≡ 5) × (keyed bytes s k ≡ true)
Fit bytes vs s p (index i) = (kind_at (log_of vs) p ≡ 4) × (i ≡ count (log_of vs) (length vs) p)

module _ (bytes : List ℕ) (vs : List Slot) (s : Slot) (p : ℕ) (at : s.parent ≡ p) (there : 1 ≤ p) (old : p < length vs + 2) where
  mine_holds : (k : List ℕ) → keyed bytes s k ≡ true → mine_s bytes s p k ≡ true
  unfolding mine_s
  mine_holds k e = rw (eq-eqb s.parent p at) e

  new_holds : (k : Key) → Fit bytes vs s p k → test bytes (log_of (vs ++ (s ∷ []))) p k (length vs) ≡ true
  new_holds (name k) f = rw (kind_more vs s p (λ e. omega arith), f.0, get_or_last vs s) (mine_holds k f.1)
  new_holds (index i) f =
      rw (kind_more vs s p (λ e. omega arith), f.0, get_or_last vs s, eq-eqb s.parent p at, count_more vs s (length vs) p (omega arith), f.1)
      (eq-eqb (count (log_of vs) (length vs) p) (count (log_of vs) (length vs) p) refl)

  pub hung_more : (k : Key) → Fit bytes vs s p k → Hung bytes (log_of vs) (log_of (vs ++ (s ∷ []))) (length vs) p k
  hung_more k f =
      record {
        others = λ m d. get_or_more vs s m d;
        free = parent_beyond vs (length vs) (omega arith);
        holds = new_holds k f;
        late = λ m l e. omega (arith, parent_beyond vs m (omega arith));
        more = 1;
        grows = length_more vs s;
        below = omega (arith, length_more vs s);
        ends = λ m l. parent_beyond vs m l;
      }

-- ---- a slot hung up

module _ (bytes : List ℕ) (vs : List Slot) (n p : ℕ) (k : Seg) (key : List ℕ) (low : n < length vs) (free : (get_or vs n void).parent ≡ 0)
    (there : 1 ≤ p) (apart : p ≡ n + 2 → ⊥) (table_there : kind_at (log_of vs) p ≡ 5) (is : part k.at (k.at + k.len) bytes ≡ key)
    (fits : k.at + k.len ≤ length bytes) (late : (m : ℕ) → n < m → (get_or vs m void).parent ≡ p → ⊥) where
  abbrev pub up : List Slot
  up = set vs n (hung p k.at k.len (get_or vs n void))

  kind_up : (q : ℕ) → (q ≡ n + 2 → ⊥) → kind_at (log_of up) q ≡ kind_at (log_of vs) q
  kind_up zero d = refl
  kind_up (suc zero) d = refl
  kind_up (suc (suc m)) d =
      ap (λ (v : Slot). v.kind) (get_or-set_other vs n m (hung p k.at k.len (get_or vs n void)) void (λ e. d (omega arith)))

  up_is : get_or up n void ≡ hung p k.at k.len (get_or vs n void)
  up_is = get_or-set_same vs n (hung p k.at k.len (get_or vs n void)) void low

  up_holds : test bytes (log_of up) p (name key) n ≡ true
  unfolding mine_s keyed
  up_holds =
      rw (kind_up p apart, table_there, up_is, eq-eqb p p refl, le-leb (k.at + k.len) (length bytes) fits, is) (same_refl key)

  pub hung_up : Hung bytes (log_of vs) (log_of up) n p (name key)
  hung_up =
      record {
        others = λ m d. get_or-set_other vs n m (hung p k.at k.len (get_or vs n void)) void d;
        free = free;
        holds = up_holds;
        late = late;
        more = 0;
        grows = length-set vs n (hung p k.at k.len (get_or vs n void)) ∙ sym (add-zero (length vs));
        below = rw (length-set vs n (hung p k.at k.len (get_or vs n void))) low;
        ends = λ m l. parent_beyond vs m l;
      }

-- ---- the search for a key

abbrev pub place_of : Option ℕ → ℕ
place_of (Some n) = n + 2
place_of None = 0

pub look_top : (bytes : List ℕ) (p : ℕ) (key : List ℕ) (vs : List Slot) (n : ℕ) (f : ℕ → Bool) (best : Option ℕ)
    → ((i : ℕ) → i < length vs → f (n + i) ≡ mine_s bytes (get_or vs i void) p key) → place_of best ≡ top f n
    → place_of (look_s bytes n vs p key best) ≡ top f (n + length vs)
look_top bytes p key [] n f best h e = rw (add-zero n) e
look_top bytes p key (v ∷ vs) n f best h e =
    let a : n + suc (length vs) ≡ n + 1 + length vs = omega arith in
    rw a
    (look_top bytes p key vs (n + 1) f (pick (mine_s bytes v p key) (Some n) best)
    (λ i l. let b : n + 1 + i ≡ n + suc i = omega arith in rw b (h (suc i) (omega arith)))
    (let c : n + 1 ≡ suc n = omega arith in
    let d : f n ≡ mine_s bytes v p key = ap f (sym (add-zero n)) ∙ h 0 (omega arith) in
    rw (c, d) (on (mine_s bytes v p key) (λ t. rw t) (λ t. rw t e))))

pub look_is : (bytes : List ℕ) (vs : List Slot) (p : ℕ) (key : List ℕ) → kind_at (log_of vs) p ≡ 5
    → place_of (look_s bytes 0 vs p key None) ≡ child bytes (log_of vs) p (name key)
look_is bytes vs p key e =
    look_top bytes p key vs 0 (λ n. mine_s bytes (get_or vs n void) p key) None (λ i l. let b : 0 + i ≡ i = omega arith in rw b) refl
    ∙ (let b : 0 + length vs ≡ length vs = omega arith in ap (top (λ n. mine_s bytes (get_or vs n void) p key)) b)
    ∙ top_same (λ n. mine_s bytes (get_or vs n void) p key) (test bytes (log_of vs) p (name key)) (length vs) (λ n. rw e)

-- ---- the items of an array are as many as the slots under it

pub count_up : (a : Log) (p m n : ℕ) → m < n → (a.at m).parent ≡ p → suc (count a m p) ≤ count a n p
count_up a p m zero l e = absurd (omega arith)
count_up a p m (suc n) l e =
    on (eqb m n)
    (λ t. let d : m ≡ n = eqb-true m n t in
    let f : eqb (a.at n).parent p ≡ true = eq-eqb (a.at n).parent p (ap (λ (z : ℕ). (a.at z).parent) (sym d) ∙ e) in
    rw (f, d) (omega arith))
    (λ t. let i : suc (count a m p) ≤ count a n p = count_up a p m n (omega (arith, eqb-false m n t)) e in
    on (eqb (a.at n).parent p) (λ f. rw f (omega arith)) (λ f. rw f i))

pub record Nth (a : Log) (p i n : ℕ) : Type 0 where
  pub number : ℕ
  pub low : number < n
  pub under : (a.at number).parent ≡ p
  pub place : count a number p ≡ i

pub nth_slot : (a : Log) (p i n : ℕ) → i < count a n p → Nth a p i n
nth_slot a p i zero l = absurd (omega arith)
nth_slot a p i (suc n) l =
    on (eqb (a.at n).parent p)
    (λ f. on (eqb (count a n p) i)
    (λ g. record { number = n; low = omega arith; under = eqb-true (a.at n).parent p f; place = eqb-true (count a n p) i g })
    (λ g. let h : i < suc (count a n p) = rw f at l in more (nth_slot a p i n (omega (arith, eqb-false (count a n p) i g)))))
    (λ f. let h : i < count a n p = rw f at l in more (nth_slot a p i n h))
  where
    more : Nth a p i n → Nth a p i (suc n)
    more r = record { number = r.number; low = omega (arith, r.low); under = r.under; place = r.place }
