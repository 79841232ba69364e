-- Trimming on bytes, from the head on and backwards from the end, is trimming on characters.
use Rattle.std.specs.Prelude.{ℕ, zero, suc, ◌+◌, ◌-◌, ◌≤◌, ◌<◌, Bool, true, false, List, [], ◌∷◌, ◌++◌, reverse, ◌≡◌, refl, eqb, leb, length, take, drop}
use Rattle.std.proofs.Common.{append_assoc, append-nil, sym, ap, ◌∙◌, arith, eqb-true, leb-true, le-leb, eq-eqb, length-drop, take-append-drop, length-append, drop_of_length-le, length-take-le}
use Rattle.std.proofs.lemmas.List.{reverse-append, reverse-reverse}
use Rattle.std.proofs.lemmas.Bool.{eqb-false}
use Rattle.std.proofs.Math.Dec.{eqb-suc-zero}
use Rattle.std.proofs.Math.Seq.{drop-append_seam}
use Rattle.meaning.specs.Base.{pick, nil?}
use Rattle.meaning.specs.Utf8.{char, point, Char, head_of, chars, spelled}
use Rattle.meaning.specs.Space.{white, white_char, trim_head, trim_tail, trim_start, trim_end, trim, blank}
use Rattle.laws.specs.Cases.{on, picked, never}
use Rattle.laws.specs.Chars.{Fresh, char_head, char_fits, char_most, chars_step, chars_append, chars_one, spelled_chars}

-- how many bytes the white space at the head of s has, or 0
unfoldable pub white_at : List ℕ → ℕ
white_at s = pick (eqb (char s) 0) 0 (pick (white (point (take (char s) s))) (char s) 0)

-- the last k bytes of s are one white character
unfoldable pub ends_in : ℕ → List ℕ → Bool
ends_in k s = pick (leb k (length s)) (eqb (white_at (drop (length s - k) s)) k) false

-- how many bytes the white space at the end of s has, or 0
unfoldable pub white_end : List ℕ → ℕ
white_end s = pick (ends_in 1 s) 1 (pick (ends_in 2 s) 2 (pick (ends_in 3 s) 3 (pick (ends_in 4 s) 4 0)))

-- ---- at the head

-- what whiteAt says of the first character
pub record White (b : ℕ) (s : List ℕ) : Type 0 where
  pub whole : white_at (b ∷ s) ≡ char (b ∷ s)
  pub is : white_char (head_of (char (b ∷ s)) b s) ≡ true

white_head : (b : ℕ) (s : List ℕ) (n : ℕ) → char (b ∷ s) ≡ n → 0 < white_at (b ∷ s) → White b s
unfolding white_at
white_head b s zero e h = absurd (omega (arith, rw e at h))
white_head b s (suc n) e h =
    on (white (point (take (suc n) (b ∷ s))))
    (λ p. record { whole = rw (e, eqb-suc-zero, p); is = rw e p })
    (λ p. absurd (omega (arith, rw (e, eqb-suc-zero, p) at h)))

plain_head : (b : ℕ) (s : List ℕ) (n : ℕ) → char (b ∷ s) ≡ n → white_at (b ∷ s) ≡ 0 → white_char (head_of (char (b ∷ s)) b s) ≡ false
unfolding white_at
plain_head b s zero e h = rw e
plain_head b s (suc n) e h =
    on (white (point (take (suc n) (b ∷ s))))
    (λ p. absurd (omega (arith, rw (e, eqb-suc-zero, p) at h)))
    (λ p. rw e p)

pub white_fits : (s : List ℕ) → white_at s ≤ length s
unfolding white_at
white_fits s =
    let P : ℕ → Type 0 = λ r. r ≤ length s in
    picked P (eqb (char s) 0) (λ _. omega arith) (λ _. picked P (white (point (take (char s) s))) (λ _. char_fits s) (λ _. omega arith))

pub head_more : (s : List ℕ) (n : ℕ) → n ≡ white_at s → (n ≡ 0 → ⊥) → trim_head (chars 0 s) ≡ trim_head (chars 0 (drop n s))
head_more [] n e h = absurd (omega (arith, white_fits []))
head_more (b ∷ s) zero e h = absurd (h refl)
head_more (b ∷ s) (suc n) e h =
    let w : White b s = white_head b s (char (b ∷ s)) refl (omega arith) in
    let c : char (b ∷ s) ≡ suc n = sym w.whole ∙ sym e in
    let k : char (b ∷ s) - 1 ≡ n = omega arith in
    ap trim_head (chars_step b s) ∙ rw (w.is, k)

pub head_stop : (s : List ℕ) (n : ℕ) → n ≡ white_at s → n ≡ 0 → trim_head (chars 0 s) ≡ chars 0 s
head_stop [] n e h = refl
head_stop (b ∷ s) n e h =
    ap trim_head (chars_step b s) ∙ rw (plain_head b s (char (b ∷ s)) refl (sym e ∙ h)) (sym (chars_step b s))

-- ---- at the end

-- the characters of s, of which the last is the one at the head of b ∷ g
record Last (s : List ℕ) : Type 0 where
  cs : List Char
  x : List ℕ
  b : ℕ
  g : List ℕ
  parts : s ≡ x ++ (b ∷ g)
  listed : chars 0 s ≡ cs ++ (head_of (char (b ∷ g)) b g ∷ [])
  width : 0 < char (b ∷ g) → char (b ∷ g) ≡ suc (length g)

-- the first character is the last where nothing is left
alone : (b : ℕ) (s : List ℕ) → drop (char (b ∷ s) - 1) s ≡ [] → Last (b ∷ s)
alone b s d = record {
  cs = [];
  x = [];
  b = b;
  g = s;
  parts = refl;
  listed = chars_step b s ∙ rw d;
  width = λ h. omega (arith, char_fits (b ∷ s), length-drop (char (b ∷ s) - 1) s, ap length d);
}

-- and else the last of what is left
after : (b : ℕ) (s r : List ℕ) → drop (char (b ∷ s) - 1) s ≡ r → Last r → Last (b ∷ s)
after b s r d l = record {
  cs = head_of (char (b ∷ s)) b s ∷ l.cs;
  x = b ∷ (take (char (b ∷ s) - 1) s ++ l.x);
  b = l.b;
  g = l.g;
  parts =
      ap (λ (t : List ℕ). b ∷ t)
      (sym (take-append-drop (char (b ∷ s) - 1) s) ∙ ap (λ (t : List ℕ). take (char (b ∷ s) - 1) s ++ t) (d ∙ l.parts)
      ∙ sym (append_assoc (take (char (b ∷ s) - 1) s) l.x (l.b ∷ l.g)));
  listed = chars_step b s ∙ ap (λ (t : List ℕ). head_of (char (b ∷ s)) b s ∷ chars 0 t) d ∙ ap (λ (t : List Char). head_of (char (b ∷ s)) b s ∷ t) l.listed;
  width = l.width;
}

last_of : (k b : ℕ) (s : List ℕ) → length s ≤ k → Last (b ∷ s)
last_of zero b s h = alone b s (drop_of_length-le s {i = char (b ∷ s) - 1} (omega arith))
last_of (suc k) b s h = go (drop (char (b ∷ s) - 1) s) refl (λ c r. last_of k c r)
  where
    go : (r : List ℕ) → drop (char (b ∷ s) - 1) s ≡ r → ((c : ℕ) (r : List ℕ) → length r ≤ k → Last (c ∷ r)) → Last (b ∷ s)
    go [] d ih = alone b s d
    go (c ∷ r) d ih = after b s (c ∷ r) d (ih c r (omega (arith, length-drop (char (b ∷ s) - 1) s, ap length d)))

-- a white character at the end goes, any other stays
tail_white : (cs : List Char) (c : Char) → white_char c ≡ true → trim_tail (cs ++ (c ∷ [])) ≡ trim_tail cs
tail_white cs c e = rw (reverse-append cs (c ∷ []), e)

tail_plain : (cs : List Char) (c : Char) → white_char c ≡ false → trim_tail (cs ++ (c ∷ [])) ≡ cs ++ (c ∷ [])
tail_plain cs c e =
    let r : reverse (cs ++ (c ∷ [])) ≡ c ∷ reverse cs = reverse-append cs (c ∷ []) in
    rw (r, e) (rw (← r) (reverse-reverse (cs ++ (c ∷ []))))

ends_true : (k : ℕ) (s : List ℕ) → ends_in k s ≡ true → (k ≤ length s) × (white_at (drop (length s - k) s) ≡ k)
unfolding ends_in
ends_true k s e =
    on (leb k (length s))
    (λ p. (leb-true k (length s) p, eqb-true (white_at (drop (length s - k) s)) k (rw p at e)))
    (λ p. never {b = false} (rw p at e) refl)

end_found : (s : List ℕ) → 0 < white_end s → ends_in (white_end s) s ≡ true
unfolding white_end
end_found s =
    let P : ℕ → Type 0 = λ r. 0 < r → ends_in r s ≡ true in
    picked P (ends_in 1 s) (λ p _. p)
    (λ _. picked P (ends_in 2 s) (λ p _. p)
    (λ _. picked P (ends_in 3 s) (λ p _. p)
    (λ _. picked P (ends_in 4 s) (λ p _. p) (λ _ h. absurd (omega arith)))))

pub end_fits : (s : List ℕ) → white_end s ≤ length s
end_fits s = go (white_end s) refl
  where
    go : (n : ℕ) → white_end s ≡ n → white_end s ≤ length s
    go zero e = omega arith
    go (suc n) e = (ends_true (white_end s) s (end_found s (omega arith))).0

-- the last bytes are one white character: they begin afresh, so they are the last character
white_last : (t g : List ℕ) → 0 < white_at g → white_at g ≡ length g → trim_tail (chars 0 (t ++ g)) ≡ trim_tail (chars 0 t)
white_last t [] h e = rw append-nil
white_last t (b ∷ g) h e =
    let w : White b g = white_head b g (char (b ∷ g)) refl h in
    let c : char (b ∷ g) ≡ suc (length g) = sym w.whole ∙ e in
    let f : Fresh (b ∷ g) = (char_head (b ∷ g) (omega arith)).fresh in
    rw (chars_append 0 t (b ∷ g) (omega arith) f, chars_one b g c) (tail_white (chars 0 t) (head_of (char (b ∷ g)) b g) w.is)

pub end_more : (s : List ℕ) (n : ℕ) → n ≡ white_end s → (n ≡ 0 → ⊥) → trim_tail (chars 0 s) ≡ trim_tail (chars 0 (take (length s - n) s))
end_more s n e h =
    let p : (white_end s ≤ length s) × (white_at (drop (length s - white_end s) s) ≡ white_end s) = ends_true (white_end s) s (end_found s (omega arith)) in
    let t : List ℕ = take (length s - n) s in
    let g : List ℕ = drop (length s - n) s in
    let w : white_at g ≡ n = rw e p.1 in
    let l : length g ≡ n = length-drop (length s - n) s ∙ omega arith in
    ap (λ (r : List ℕ). trim_tail (chars 0 r)) (sym (take-append-drop (length s - n) s))
    ∙ white_last t g (omega arith) (w ∙ sym l)

end_none : (s : List ℕ) → white_end s ≡ 0 → (ends_in 1 s ≡ false) × (ends_in 2 s ≡ false) × (ends_in 3 s ≡ false) × (ends_in 4 s ≡ false)
unfolding white_end
end_none s e =
    on (ends_in 1 s) (λ p. absurd (omega (arith, rw p at e)))
    (λ p. on (ends_in 2 s) (λ q. absurd (omega (arith, rw (p, q) at e)))
    (λ q. on (ends_in 3 s) (λ r. absurd (omega (arith, rw (p, q, r) at e)))
    (λ r. on (ends_in 4 s) (λ t. absurd (omega (arith, rw (p, q, r, t) at e))) (λ t. (p, q, r, t)))))

ends_never : (s : List ℕ) → white_end s ≡ 0 → (k : ℕ) → 0 < k → k ≤ 4 → ends_in k s ≡ false
ends_never s e zero h m = absurd (omega arith)
ends_never s e (suc zero) h m = (end_none s e).0
ends_never s e (suc (suc zero)) h m = (end_none s e).1
ends_never s e (suc (suc (suc zero))) h m = (end_none s e).2
ends_never s e (suc (suc (suc (suc zero)))) h m = (end_none s e).3
ends_never s e (suc (suc (suc (suc (suc k))))) h m = absurd (omega arith)

ends_yes : (k : ℕ) (x g : List ℕ) → length g ≡ k → white_at g ≡ k → ends_in k (x ++ g) ≡ true
unfolding ends_in
ends_yes k x g l w =
    let n : length (x ++ g) ≡ length x + k = length-append x g ∙ ap (λ (m : ℕ). length x + m) l in
    let h : k ≤ length (x ++ g) = omega arith in
    let d : length (x ++ g) - k ≡ length x = omega arith in
    rw (le-leb k (length (x ++ g)) h, d, drop-append_seam x g) (eq-eqb (white_at g) k w)

white_whole : (b : ℕ) (g : List ℕ) (n : ℕ) → char (b ∷ g) ≡ suc n → white_char (head_of (char (b ∷ g)) b g) ≡ true → white_at (b ∷ g) ≡ char (b ∷ g)
unfolding white_at
white_whole b g n e w = let p : white (point (take (suc n) (b ∷ g))) ≡ true = rw e at w in rw (e, eqb-suc-zero, p)

last_plain : (s : List ℕ) → white_end s ≡ 0 → (l : Last s) (n : ℕ) → char (l.b ∷ l.g) ≡ n → white_char (head_of (char (l.b ∷ l.g)) l.b l.g) ≡ false
last_plain s e l zero c = rw c
last_plain s e l (suc n) c =
    on (white_char (head_of (char (l.b ∷ l.g)) l.b l.g))
    (λ w.
    let k : char (l.b ∷ l.g) ≡ suc (length l.g) = l.width (omega arith) in
    let a : white_at (l.b ∷ l.g) ≡ suc (length l.g) = white_whole l.b l.g n c w ∙ k in
    let y : ends_in (suc (length l.g)) s ≡ true = rw l.parts (ends_yes (suc (length l.g)) l.x (l.b ∷ l.g) refl a) in
    never y (ends_never s e (suc (length l.g)) (omega arith) (omega (arith, char_most (l.b ∷ l.g)))))
    (λ w. w)

pub end_stop : (s : List ℕ) (n : ℕ) → n ≡ white_end s → n ≡ 0 → trim_tail (chars 0 s) ≡ chars 0 s
end_stop [] n e h = refl
end_stop (b ∷ s) n e h =
    let l : Last (b ∷ s) = last_of (length s) b s (omega arith) in
    let c : Char = head_of (char (l.b ∷ l.g)) l.b l.g in
    ap trim_tail l.listed ∙ tail_plain l.cs c (last_plain (b ∷ s) (sym e ∙ h) l (char (l.b ∷ l.g)) refl) ∙ sym l.listed

-- ---- the theorem

-- from the head on, k steps at most
abbrev pub forwards : ℕ → List ℕ → List ℕ
forwards zero s = s
forwards (suc k) s = pick (eqb (white_at s) 0) s (forwards k (drop (white_at s) s))

-- backwards from the end, k steps at most
abbrev pub backwards : ℕ → List ℕ → List ℕ
backwards zero s = s
backwards (suc k) s = pick (eqb (white_end s) 0) s (backwards k (take (length s - white_end s) s))

short : (s : List ℕ) → length s ≤ 0 → s ≡ []
short [] h = refl
short (b ∷ s) h = absurd (omega arith)

forwards_trims : (k : ℕ) (s : List ℕ) → length s ≤ k → chars 0 (forwards k s) ≡ trim_head (chars 0 s)
forwards_trims zero s h = rw (short s h)
forwards_trims (suc k) s h =
    on (eqb (white_at s) 0)
    (λ p. rw p (sym (head_stop s (white_at s) refl (eqb-true (white_at s) 0 p))))
    (λ p.
    let z : white_at s ≡ 0 → ⊥ = eqb-false (white_at s) 0 p in
    rw p (forwards_trims k (drop (white_at s) s) (omega (arith, length-drop (white_at s) s)) ∙ sym (head_more s (white_at s) refl z)))

backwards_trims : (k : ℕ) (s : List ℕ) → length s ≤ k → chars 0 (backwards k s) ≡ trim_tail (chars 0 s)
backwards_trims zero s h = rw (short s h)
backwards_trims (suc k) s h =
    on (eqb (white_end s) 0)
    (λ p. rw p (sym (end_stop s (white_end s) refl (eqb-true (white_end s) 0 p))))
    (λ p.
    let z : white_end s ≡ 0 → ⊥ = eqb-false (white_end s) 0 p in
    let l : length (take (length s - white_end s) s) ≡ length s - white_end s = length-take-le (length s - white_end s) s (omega arith) in
    rw p (backwards_trims k (take (length s - white_end s) s) (omega (arith, end_fits s)) ∙ sym (end_more s (white_end s) refl z)))

-- 01's trimming, on characters, is trimming on bytes: of every byte string, so of every well-formed text
pub on_bytes : (s : List ℕ) → trim s ≡ backwards (length (forwards (length s) s)) (forwards (length s) s)
unfolding trim
on_bytes s =
    let f : List ℕ = forwards (length s) s in
    let b : List ℕ = backwards (length f) f in
    ap (λ (cs : List Char). spelled (trim_tail cs)) (sym (forwards_trims (length s) s (omega arith)))
    ∙ ap spelled (sym (backwards_trims (length f) f (omega arith))) ∙ spelled_chars b

-- what is left at the head is characters again
pub start_chars : (s : List ℕ) → chars 0 (trim_start s) ≡ trim_head (chars 0 s)
unfolding trim_start
start_chars s =
    let e : chars 0 (forwards (length s) s) ≡ trim_head (chars 0 s) = forwards_trims (length s) s (omega arith) in
    rw (← e, spelled_chars)

pub trim_both : (s : List ℕ) → trim s ≡ trim_end (trim_start s)
unfolding trim trim_end
trim_both s = rw (start_chars s)

chars_nil : (s : List ℕ) → nil? (chars 0 s) ≡ nil? s
chars_nil [] = refl
chars_nil (b ∷ s) = refl

pub blank_is : (s : List ℕ) → blank s ≡ nil? (trim_start s)
unfolding blank
blank_is s = rw (← (start_chars s)) (chars_nil (trim_start s))
