-- Records read from the rooms are 01's records.
use Rattle.std.specs.Prelude.{ℕ, ◌+◌, ◌-◌, ◌≤◌, false, List, [], ◌++◌, ◌≡◌, refl, leb, length, take, drop, unwrap_or, Option as Maybe, Some, None}
use Rattle.features.specs.declared.Piece.{Piece}
use Rattle.std.proofs.Math.Option.{Option, none, some}
use Rattle.std.proofs.Common.{sym, ◌∙◌, arith, le-leb, leb-true, length-take, length-drop, take-append-drop, drop-drop}
use Rattle.std.proofs.Math.Path.{ap}
use Rattle.std.proofs.lemmas.List.{take-append-le, drop-append-le}
use Rattle.meaning.specs.Base.{pick, nil?, or_default, first_given, ascii, part}
use Rattle.meaning.specs.Refusal.{ok, ok_then}
use Rattle.meaning.specs.Tree.{Value, Table, lookup}
use Rattle.meaning.specs.Fields.{a_text, a_number, a_flag, present, field}
use Rattle.meaning.specs.Schema as meant
use Rattle.meaning.specs.Records.{board_from, image_from, partition_from, head_from, role_from, boot_from, load_from, component_from, application_from}
use Rattle.meaning.specs.Records as records
use Rattle.meaning.specs.Files.{file_name}
use Rattle.meaning.specs.Features.{a_features}
use Rattle.laws.specs.Cases.{on}
use Rattle.tree.specs.declared.Slot.{Slot}
use Rattle.tree.specs.declared.Fields.{Fields}
use Rattle.tree.specs.Doors as doors
use Rattle.schema.specs.declared.Text.{Text}
use Rattle.schema.specs.declared.Text.TheVariants as texts
use Rattle.schema.specs.declared.Features.{Features}
use Rattle.schema.specs.declared.Chip.{Chip}
use Rattle.schema.specs.declared.Chip.TheVariants.{D13x, D21x}
use Rattle.schema.specs.declared.Word.TheVariants as words
use Rattle.schema.specs.Words.{word, chip_meant, chip_word, target_word, media_choice, media_choice_lem}
use Rattle.schema.specs.Texts.{clip, spelled, optional, or_text, aic_of, amount}
use Rattle.features.specs.Pieces.{pieces, features_read}
use Rattle.features.specs.Ordered.{nil_pieces}
use Rattle.agree.specs.Doors.{Sees, Told}
use Rattle.parse.specs.File.{piece_of, Inside, file_at}
use Rattle.parse.specs.Fields.{text_at, number_at, flag_at}
use Rattle.parse.specs.Front.{board_read, image_read, image_names, image_rest}
use Rattle.parse.specs.Meant.{feature_list, board_meant, image_meant, partition_meant, head_meant, role_meant, boot_meant, load_meant, component_meant, application_meant}
use Rattle.parse.specs.Component.{head_read, role_read, boot_read, load_read, component_read, sources, lists, filename_for, name_in, piece_in}
use Rattle.parse.specs.Application.{names, loading, application_read}
use Rattle.parse.specs.Entries.{partition_read}
use Rattle.parse.specs.Reads.{clip_none, Kept, text_kept, else_spelled, Gives, gives_via, gives_made, gives_by, first_two, first_three, first_four}
use Rattle.agree.proofs.Fields.{text_got, text_or_got, text_need_got, text_place_got, number_got, number_or_got, number_need_got, flag_got, kind_field_got, media_field_got, features_got}

target_is : (chip : Chip) → word (target_word chip) ≡ meant.target_for (chip_meant chip)
unfolding word meant.target_for
target_is D13x = refl
target_is D21x = refl

platform_is : (chip : Chip) → word (chip_word chip) ≡ meant.chip_word (chip_meant chip)
unfolding word meant.chip_word
platform_is D13x = refl
platform_is D21x = refl

-- ---- a file's name

part_in : (s u : List ℕ) (at len : ℕ) → at + len ≤ length s → take len (drop at (s ++ u)) ≡ take len (drop at s)
part_in s u at len h =
    let k : len ≤ length (drop at s) = omega (arith, length-drop at s) in
    let a : at ≤ length s = omega arith in
    rw drop-append-le (take-append-le len (drop at s) u k)

-- a piece of a piece of the store
clip_in : (store : List ℕ) (from n at len : ℕ) → at + len ≤ length (clip from n store) → clip (from + at) len store ≡ part at (at + len) (clip from n store)
unfolding clip
clip_in store from n at len h =
    on (leb (from + n) (length store))
    (λ e.
    let d : from + n ≤ length store = leb-true (from + n) (length store) e in
    let i : at + len ≤ length (take (from + n - from) (drop from store)) = rw e at h in
    let l : from + at + len ≤ length store = omega (arith, length-take (from + n - from) (drop from store), length-drop from store) in
    let c : from + at + len - (from + at) ≡ len = omega arith in
    let b : at + len - at ≡ len = omega arith in
    rw (e, le-leb (from + at + len) (length store) l, c, b, ← drop-drop at from store)
    (ap (λ (s : List ℕ). take len (drop at s)) (sym (take-append-drop (from + n - from) (drop from store)))
    ∙ part_in (take (from + n - from) (drop from store)) (drop (from + n - from) (drop from store)) at len i))
    (λ e.
    let i : at + len ≤ 0 = rw e at h in
    let a : at ≡ 0 = omega arith in
    let l : len ≡ 0 = omega arith in
    rw (e, a, l) (on (leb (from + 0 + 0) (length store)) (λ f. let z : from + 0 + 0 - (from + 0) ≡ 0 = omega arith in rw (f, z)) (λ f. rw f)))

module _ (store name : List ℕ) (file_named : (s : List ℕ) → piece_of s (file_at s) ≡ file_name s) (file_inside : (s : List ℕ) → Inside s (file_at s)) where
  piece_in_lem : (from n : ℕ) (p : Maybe Piece) → Inside (clip from n store) p → optional store name (piece_in from p) ≡ piece_of (clip from n store) p
  piece_in_lem from n None h = refl
  piece_in_lem from n (Some p) h = ap some (clip_in store from n p.from p.len h)

  name_in_lem : (t : Text) → Kept t → optional store name (name_in store t) ≡ records.name_in (optional store name t)
  name_in_lem texts.Absent h = refl
  name_in_lem (texts.Stored from n) h = piece_in_lem from n (file_at (clip from n store)) (file_inside (clip from n store)) ∙ file_named (clip from n store)
  name_in_lem texts.Lent h = absurd h
  name_in_lem (texts.Fixed w) h = absurd h
  name_in_lem (texts.WithAic from len) h = absurd h

  else_or : (o p : Option (List ℕ)) (d : List ℕ) → or_default (first_given o p) d ≡ or_default o (or_default p d)
  else_or none p d = refl
  else_or (some b) p d = refl

  filename_is : (bin file pack : Text) → Kept file
      → spelled store name (or_text bin (or_text (name_in store file) (or_text pack (texts.Fixed words.Component))))
      ≡ records.filename_for (optional store name bin) (optional store name file) (optional store name pack)
  unfolding records.filename_for word
  filename_is bin file pack h =
      let d : Text = texts.Fixed words.Component in
      rw (
        else_or (optional store name bin) (first_given (records.name_in (optional store name file)) (optional store name pack)) (ascii "component.bin"),
        else_or (records.name_in (optional store name file)) (optional store name pack) (ascii "component.bin"),
        ← name_in_lem file h,
      )
      (else_spelled store name bin (or_text (name_in store file) (or_text pack d))
      ∙ ap (or_default (optional store name bin)) (else_spelled store name (name_in store file) (or_text pack d) ∙ ap (or_default (optional store name (name_in store file))) (else_spelled store name pack d)))

-- a name that was read, or the key, with `.aic`
with_aic : (store name : List ℕ) (t : Text) (from len : ℕ) → Kept t
    → spelled store name (aic_of (or_text t (texts.Stored from len))) ≡ spelled store name (or_text t (texts.Stored from len)) ++ ascii ".aic"
with_aic store name texts.Absent from len h = refl
with_aic store name (texts.Stored a b) from len h = refl
with_aic store name texts.Lent from len h = absurd h
with_aic store name (texts.Fixed w) from len h = absurd h
with_aic store name (texts.WithAic a b) from len h = absurd h

module _ (room store bytes : List ℕ) (vs : List Slot) (x : Value) (made : ℕ) (h : Told room store bytes vs x made) (name : List ℕ) (t : Table) (f : Fields)
    (fs : (k : List ℕ) → Sees store bytes vs x (lookup t k) (doors.field room store f k)) where
  or_text_lem : (k : List ℕ) (d : Text) (b : List ℕ) → spelled store name d ≡ b
      → Gives (ok_then (present a_text (lookup t k)) (λ p. ok (or_default p b))) (text_at room store f k).fault (spelled store name (or_text (text_at room store f k).text d))
  or_text_lem k d b e = text_or_got store bytes vs x name (lookup t k) (doors.field room store f k) (fs k) d b e

  optional_text : (k : List ℕ) → Gives (present a_text (lookup t k)) (text_at room store f k).fault (optional store name (text_at room store f k).text)
  optional_text k = text_got store bytes vs x name (lookup t k) (doors.field room store f k) (fs k)

  optional_number : (k : List ℕ) → Gives (present a_number (lookup t k)) (number_at room store f k).fault (amount (number_at room store f k).number)
  optional_number k = number_got store bytes vs x name (lookup t k) (doors.field room store f k) (fs k)

  or_number_lem : (k : List ℕ) (d : ℕ) → Gives (ok_then (present a_number (lookup t k)) (λ p. ok (or_default p d))) (number_at room store f k).fault (unwrap_or (number_at room store f k).number d)
  or_number_lem k d = number_or_got store bytes vs x name (lookup t k) (doors.field room store f k) (fs k) d

  a_flag_lem : (k : List ℕ) → Gives (ok_then (present a_flag (lookup t k)) (λ p. ok (or_default p false))) (flag_at room store f k).fault (flag_at room store f k).flag
  a_flag_lem k = flag_got store bytes vs x name (lookup t k) (doors.field room store f k) (fs k)

  -- ---- board and image

  pub board_got : (chip : Chip) (lent : Text)
      → Gives (board_from (spelled store name lent) (chip_meant chip) t) (board_read room store f chip lent).fault (board_meant room store made name (board_read room store f chip lent).board)
  unfolding board_from board_read field word
  board_got chip lent =
      gives_via _ (or_text_lem (ascii "name") lent _ refl)
      (gives_via _ (or_text_lem (ascii "target") (texts.Fixed (target_word chip)) _ (target_is chip))
      (gives_made _ (or_text_lem (ascii "profile") (texts.Fixed words.Release) _ refl)))

  pub image_got : (chip : Chip) → Gives (image_from (chip_meant chip) t) (image_read room store f chip).fault (image_meant room store made name (image_read room store f chip).image)
  unfolding image_from image_read image_names image_rest field word
  image_got chip =
      gives_by (first_three (text_at room store f (ascii "platform")).fault (text_at room store f (ascii "product")).fault (text_at room store f (ascii "version")).fault _)
      (gives_via _ (or_text_lem (ascii "platform") (texts.Fixed (chip_word chip)) _ (platform_is chip))
      (gives_via _ (or_text_lem (ascii "product") (texts.Fixed words.Unknown) _ refl)
      (gives_via _ (or_text_lem (ascii "version") (texts.Fixed words.Version) _ refl)
      (gives_via _ (rw (media_choice_lem chip) at (media_field_got store bytes vs x name _ _ (fs (ascii "media")) (media_choice chip)))
      (gives_via _ (or_number_lem (ascii "media_dev_id") 0)
      (gives_via _ (or_text_lem (ascii "media_id") (texts.Stored 0 0) _ (clip_none store))
      (gives_made _ (or_text_lem (ascii "app") (texts.Stored 0 0) _ (clip_none store)))))))))

  -- ---- partitions

  pub partition_got : Gives (partition_from t) (partition_read room store f).fault (partition_meant room store made name (partition_read room store f).partition)
  unfolding partition_from partition_read field
  partition_got =
      gives_via _ (text_place_got store bytes vs x name _ _ (fs (ascii "name")))
      (gives_via _ (number_need_got store bytes vs x name _ _ (fs (ascii "offset")))
      (gives_via _ (number_need_got store bytes vs x name _ _ (fs (ascii "size")))
      (gives_made _ (a_flag_lem (ascii "locked")))))

  -- ---- components

  -- a file's name lies where the path's last piece does
  pub head_got : ((s : List ℕ) → piece_of s (file_at s) ≡ file_name s) → ((s : List ℕ) → Inside s (file_at s))
      → Gives (head_from t) (head_read room store f).fault (head_meant room store made name (head_read room store f).head)
  unfolding head_from head_read sources field filename_for
  head_got named inside =
      gives_via _ (kind_field_got store bytes vs x name _ _ (fs (ascii "kind")))
      (gives_via _ (text_need_got store bytes vs x name _ _ (fs (ascii "name")))
      (gives_by (first_three (text_at room store f (ascii "package")).fault (text_at room store f (ascii "bin")).fault (text_at room store f (ascii "file")).fault _)
      (gives_via _ (optional_text (ascii "package"))
      (gives_via _ (optional_text (ascii "bin"))
      (gives_via _ (optional_text (ascii "file"))
      (gives_made _ (or_text_lem (ascii "filename") _ _
      (filename_is store name named inside (text_at room store f (ascii "bin")).text (text_at room store f (ascii "file")).text (text_at room store f (ascii "package")).text
      (text_kept (doors.field room store f (ascii "file")))))))))))

  a_list : (k : List ℕ) (limit : ℕ)
      → Gives (ok_then (present (a_features limit) (lookup t k)) (λ p. ok (or_default p []))) (features_read room store made limit (doors.field room store f k)).fault
      (feature_list room store made (features_read room store made limit (doors.field room store f k)).features)
  a_list k limit = features_got room store bytes vs x made h limit (lookup t k) (doors.field room store f k) (fs k)

  -- "Empty `pbp_features` takes `features`."
  own_or : (all own : Features)
      → feature_list room store made (pick (nil? (pieces room store made own)) all own)
      ≡ pick (nil? (feature_list room store made own)) (feature_list room store made all) (feature_list room store made own)
  own_or all own =
      rw (nil_pieces store (pieces room store made own))
      (on (nil? (feature_list room store made own)) (λ e. rw e) (λ e. rw e))

  pub role_got : (limit : ℕ) → Gives (role_from limit t) (role_read room store made f limit).fault (role_meant room store made name (role_read room store made f limit).role)
  unfolding role_from role_read lists field word
  role_got limit =
      let all = features_read room store made limit (doors.field room store f (ascii "features")) in
      let own = features_read room store made limit (doors.field room store f (ascii "pbp_features")) in
      rw (own_or all.features own.features)
      (gives_by (first_two all.fault own.fault _)
      (gives_via _ (a_list (ascii "features") limit)
      (gives_via _ (a_list (ascii "pbp_features") limit)
      (gives_via _ (or_text_lem (ascii "partition") (texts.Stored 0 0) _ (clip_none store))
      (gives_via _ (or_text_lem (ascii "attr") (texts.Fixed words.Required) _ refl)
      (gives_via _ (optional_text (ascii "target_attr")) (gives_made _ (optional_text (ascii "target_filename")))))))))

  pub boot_got : Gives (boot_from t) (boot_read room store f).fault (boot_meant room store made name (boot_read room store f).boot)
  unfolding boot_from boot_read field
  boot_got =
      gives_via _ (a_flag_lem (ascii "updater"))
      (gives_via _ (optional_number (ascii "ram"))
      (gives_via _ (optional_text (ascii "pbp"))
      (gives_via _ (optional_text (ascii "pbp_package")) (gives_made _ (optional_text (ascii "private"))))))

  pub load_got : Gives (load_from t) (load_read room store f).fault (load_meant room store made name (load_read room store f).load)
  unfolding load_from load_read field
  load_got =
      gives_via _ (optional_number (ascii "load_address"))
      (gives_via _ (optional_number (ascii "entry_point"))
      (gives_via _ (optional_number (ascii "entry_offset"))
      (gives_via _ (optional_number (ascii "header_version"))
      (gives_via _ (a_flag_lem (ascii "with_ext")) (gives_made _ (or_number_lem (ascii "ext_reserve") 0))))))

  pub component_got : (limit : ℕ) → ((s : List ℕ) → piece_of s (file_at s) ≡ file_name s) → ((s : List ℕ) → Inside s (file_at s))
      → Gives (component_from limit t) (component_read room store made f limit).fault (component_meant room store made name (component_read room store made f limit).component)
  unfolding component_from component_read
  component_got limit named inside = gives_via _ (head_got named inside) (gives_via _ (role_got limit) (gives_via _ boot_got (gives_made _ load_got)))

  -- ---- applications

  -- the key lies in the store
  pub application_got : (limit from len : ℕ)
      → Gives (application_from limit (clip from len store) t) (application_read room store made f (texts.Stored from len) limit).fault
      (application_meant room store made name (application_read room store made f (texts.Stored from len) limit).application)
  unfolding application_from application_read names loading field word
  application_got limit from len =
      let called = text_at room store f (ascii "name") in
      gives_by (first_four called.fault (text_at room store f (ascii "partition")).fault (text_at room store f (ascii "filename")).fault (text_at room store f (ascii "attr")).fault _)
      (gives_via _ (or_text_lem (ascii "name") (texts.Stored from len) _ refl)
      (gives_via _ (or_text_lem (ascii "partition") (texts.Fixed words.App) _ refl)
      (gives_via _ (or_text_lem (ascii "filename") (aic_of (or_text called.text (texts.Stored from len))) _
      (with_aic store name called.text from len (text_kept (doors.field room store f (ascii "name")))))
      (gives_via _ (or_text_lem (ascii "attr") (texts.Fixed words.Optional) _ refl)
      (gives_via _ (a_list (ascii "features") limit)
      (gives_via _ (optional_number (ascii "load_address")) (gives_made _ (optional_number (ascii "entry_offset")))))))))
