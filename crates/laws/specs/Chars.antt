-- Characters of a byte string: what one has, where the next begins, and the characters of two strings laid end to end.
use Rattle.std.specs.Prelude.{ℕ, zero, suc, ◌-◌, ◌≤◌, ◌<◌, true, false, List, [], ◌∷◌, ◌++◌, ◌≡◌, refl, length, drop}
use Rattle.std.proofs.Common.{ap, ◌∙◌, arith, take-append-drop}
use Rattle.std.proofs.lemmas.List.{take-append-le}
use Rattle.std.proofs.Math.Seq.{drop-length}
use Rattle.meaning.specs.Base.{between}
use Rattle.meaning.specs.Utf8.{Range, begins, one_of, utf8_1, utf8_2, utf8_3, utf8_4, char, head_of, chars, bytes_of, spelled, well_formed}
use Rattle.laws.specs.Cases.{on, picked, never, between_no, between_low, between_high}

-- ---- rows of the ABNF

-- every byte after the first is a tail
abbrev Tails : List Range → Type 0
Tails [] = Unit
Tails (r ∷ rs) = (0x80 ≤ r.low) × (r.high ≤ 0xbf) × Tails rs

-- the first byte is none
abbrev Lead : Range → Type 0
Lead r = (b : ℕ) → r.low ≤ b → b ≤ r.high → 0x80 ≤ b → b ≤ 0xbf → ⊥

-- a row of n bytes
abbrev Row : ℕ → List Range → Type 0
Row n [] = ⊥
Row n (r ∷ rs) = Lead r × Tails rs × (suc (length rs) ≡ n)

abbrev Rows : ℕ → List (List Range) → Type 0
Rows n [] = Unit
Rows n (r ∷ rs) = Row n r × Rows n rs

-- s is empty, or its first byte is no tail
abbrev pub Fresh : List ℕ → Type 0
Fresh [] = Unit
Fresh (b ∷ s) = 0x80 ≤ b → b ≤ 0xbf → ⊥

rows_1 : Rows 1 utf8_1
rows_1 = omega arith

rows_2 : Rows 2 utf8_2
rows_2 = omega arith

rows_3 : Rows 3 utf8_3
rows_3 = omega arith

rows_4 : Rows 4 utf8_4
rows_4 = omega arith

-- ---- a row over two strings laid end to end

tails_append : (rs : List Range) (t g : List ℕ) → Tails rs → Fresh g → begins rs (t ++ g) ≡ begins rs t
tails_append [] t g o f = refl
tails_append (r ∷ rs) [] [] o f = refl
tails_append (r ∷ rs) [] (b ∷ g) o f = rw (between_no r.low r.high b (λ h k. f (omega arith) (omega arith)))
tails_append (r ∷ rs) (x ∷ t) g o f = rw (tails_append rs t g o.2 f)

row_append : (n : ℕ) (r : List Range) (b : ℕ) (t g : List ℕ) → Row n r → Fresh g → begins r (b ∷ t ++ g) ≡ begins r (b ∷ t)
row_append n [] b t g o f = absurd o
row_append n (r ∷ rs) b t g o f = rw (tails_append rs t g o.1 f)

rows_append : (n : ℕ) (rs : List (List Range)) (b : ℕ) (t g : List ℕ) → Rows n rs → Fresh g → one_of rs (b ∷ t ++ g) ≡ one_of rs (b ∷ t)
rows_append n [] b t g o f = refl
rows_append n (r ∷ rs) b t g o f = rw (row_append n r b t g o.0 f, rows_append n rs b t g o.1 f)

-- the character at the head does not look into what begins afresh
pub char_append : (b : ℕ) (t g : List ℕ) → Fresh g → char (b ∷ t ++ g) ≡ char (b ∷ t)
unfolding char
char_append b t g f =
    rw (rows_append 1 utf8_1 b t g rows_1 f, rows_append 2 utf8_2 b t g rows_2 f, rows_append 3 utf8_3 b t g rows_3 f, rows_append 4 utf8_4 b t g rows_4 f)

-- ---- a character ends within the string, and begins with no tail

begins_fits : (rs : List Range) (s : List ℕ) → begins rs s ≡ true → length rs ≤ length s
begins_fits [] s e = omega arith
begins_fits (r ∷ rs) [] e = never {b = false} e refl
begins_fits (r ∷ rs) (b ∷ s) e =
    on (between r.low r.high b) (λ p. omega (arith, begins_fits rs s (rw p at e))) (λ p. never {b = false} (rw p at e) refl)

begins_fresh : (n : ℕ) (r : List Range) (s : List ℕ) → Row n r → begins r s ≡ true → Fresh s
begins_fresh n [] s o e = absurd o
begins_fresh n (r ∷ rs) [] o e = tt
begins_fresh n (r ∷ rs) (b ∷ s) o e =
    on (between r.low r.high b)
    (λ p. o.0 b (between_low r.low r.high b p) (between_high r.low r.high b p))
    (λ p. never {b = false} (rw p at e) refl)

-- what a character of n bytes at the head says
pub record Head (n : ℕ) (s : List ℕ) : Type 0 where
  pub fits : n ≤ length s
  pub fresh : Fresh s

row_head : (n : ℕ) (r : List Range) (s : List ℕ) → Row n r → begins r s ≡ true → Head n s
row_head n [] s o e = absurd o
row_head n (r ∷ rs) s o e = record { fits = omega (arith, begins_fits (r ∷ rs) s e); fresh = begins_fresh n (r ∷ rs) s o e }

rows_head : (n : ℕ) (rs : List (List Range)) (s : List ℕ) → Rows n rs → one_of rs s ≡ true → Head n s
rows_head n [] s o e = never {b = false} e refl
rows_head n (r ∷ rs) s o e =
    on (begins r s) (λ p. row_head n r s o.0 p) (λ p. rows_head n rs s o.1 (rw p at e))

pub char_head : (s : List ℕ) → 0 < char s → Head (char s) s
unfolding char
char_head s =
    let P : ℕ → Type 0 = λ r. 0 < r → Head r s in
    picked P (one_of utf8_1 s) (λ p _. rows_head 1 utf8_1 s rows_1 p)
    (λ _. picked P (one_of utf8_2 s) (λ p _. rows_head 2 utf8_2 s rows_2 p)
    (λ _. picked P (one_of utf8_3 s) (λ p _. rows_head 3 utf8_3 s rows_3 p)
    (λ _. picked P (one_of utf8_4 s) (λ p _. rows_head 4 utf8_4 s rows_4 p) (λ _ h. absurd (omega arith)))))

pub char_fits : (s : List ℕ) → char s ≤ length s
char_fits s = go (char s) refl
  where
    go : (n : ℕ) → char s ≡ n → char s ≤ length s
    go zero e = omega arith
    go (suc n) e = (char_head s (omega arith)).fits

pub char_most : (s : List ℕ) → char s ≤ 4
unfolding char
char_most s =
    let P : ℕ → Type 0 = λ r. r ≤ 4 in
    picked P (one_of utf8_1 s) (λ _. omega arith)
    (λ _. picked P (one_of utf8_2 s) (λ _. omega arith)
    (λ _. picked P (one_of utf8_3 s) (λ _. omega arith)
    (λ _. picked P (one_of utf8_4 s) (λ _. omega arith) (λ _. omega arith))))

-- ---- characters

-- k bytes are passed
pub chars_skip : (k : ℕ) (s : List ℕ) → k ≤ length s → chars k s ≡ chars 0 (drop k s)
chars_skip zero s h = refl
chars_skip (suc k) [] h = refl
chars_skip (suc k) (b ∷ s) h = chars_skip k s (omega arith)

-- the first character and the rest
pub chars_step : (b : ℕ) (s : List ℕ) → chars 0 (b ∷ s) ≡ head_of (char (b ∷ s)) b s ∷ chars 0 (drop (char (b ∷ s) - 1) s)
chars_step b s = rw (chars_skip (char (b ∷ s) - 1) s (omega (arith, char_fits (b ∷ s))))

head_append : (n b : ℕ) (t g : List ℕ) → n ≤ suc (length t) → head_of n b (t ++ g) ≡ head_of n b t
head_append zero b t g h = refl
head_append (suc n) b t g h = let k : n ≤ length t = omega arith in rw (take-append-le n t g)

-- the characters of two strings laid end to end, where the second begins afresh
pub chars_append : (k : ℕ) (t g : List ℕ) → k ≤ length t → Fresh g → chars k (t ++ g) ≡ chars k t ++ chars 0 g
chars_append zero [] g h f = refl
chars_append (suc k) [] g h f = absurd (omega arith)
chars_append zero (b ∷ t) g h f =
    let n : char (b ∷ t) ≤ suc (length t) = char_fits (b ∷ t) in
    rw (char_append b t g f, head_append (char (b ∷ t)) b t g n, chars_append (char (b ∷ t) - 1) t g (omega arith) f)
chars_append (suc k) (b ∷ t) g h f = chars_append k t g (omega arith) f

-- nothing is lost
bytes_head : (n b : ℕ) (s : List ℕ) → n ≤ suc (length s) → bytes_of (head_of n b s) ++ drop (n - 1) s ≡ b ∷ s
bytes_head zero b s h = refl
bytes_head (suc n) b s h = let k : suc n - 1 ≡ n = omega arith in rw (k, take-append-drop n s)

spelled_skip : (k : ℕ) (s : List ℕ) → k ≤ length s → spelled (chars k s) ≡ drop k s
spelled_skip zero [] h = refl
spelled_skip (suc k) [] h = refl
spelled_skip zero (b ∷ s) h =
    let n : char (b ∷ s) ≤ suc (length s) = char_fits (b ∷ s) in
    rw (spelled_skip (char (b ∷ s) - 1) s (omega arith)) (bytes_head (char (b ∷ s)) b s n)
spelled_skip (suc k) (b ∷ s) h = spelled_skip k s (omega arith)

pub spelled_chars : (s : List ℕ) → spelled (chars 0 s) ≡ s
spelled_chars s = spelled_skip 0 s (omega arith)

-- a string that is one character
pub chars_one : (b : ℕ) (s : List ℕ) → char (b ∷ s) ≡ suc (length s) → chars 0 (b ∷ s) ≡ head_of (char (b ∷ s)) b s ∷ []
chars_one b s e =
    let k : char (b ∷ s) - 1 ≡ length s = omega arith in
    chars_step b s ∙ rw (k, drop-length)

-- ---- well-formed text
pub valid_more : (s : List ℕ) (n : ℕ) → n ≡ char s → (n ≡ 0 → ⊥) → well_formed (chars 0 s) ≡ well_formed (chars 0 (drop n s))
valid_more [] n e h = absurd (omega (arith, char_fits []))
valid_more (b ∷ s) zero e h = absurd (h refl)
valid_more (b ∷ s) (suc n) e h =
    let k : suc n - 1 ≡ n = omega arith in
    ap well_formed (chars_step b s) ∙ rw (← e, k)

pub valid_stop : (s : List ℕ) (n : ℕ) → 0 < length s → n ≡ char s → n ≡ 0 → well_formed (chars 0 s) ≡ false
valid_stop [] n l e h = absurd (omega arith)
valid_stop (b ∷ s) n l e h = ap well_formed (chars_step b s) ∙ rw (← e, h)
