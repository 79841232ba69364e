-- What the listing prints of a preset's records stands in its tree, with so much beside it for each entry.
use Rattle.std.specs.Prelude.{ℕ, zero, suc, ◌+◌, ◌*◌, ◌≤◌, refl, ltb}
use mathlib.Core.List.{List, [], ◌∷◌}
use Rattle.std.proofs.Math.Option.{Option, none, some}
use Rattle.std.proofs.Common.{arith, ltb-false}
use Rattle.std.proofs.Math.ListN.{length}
use Rattle.meaning.specs.declared.Limits.{Limits}
use Rattle.meaning.specs.Base.{ascii, same, less, or_default}
use Rattle.meaning.specs.Refusal.{R, ok, bad, Answer, accepted, refused, accepted_then, told, in_board, in_image, in_partition, in_component, in_application}
use Rattle.meaning.specs.Tree.{Value, Items, Table, none', item, empty, entry, as_table}
use Rattle.meaning.specs.Order.{ranked, sorted}
use Rattle.meaning.specs.Schema.{Partition, Component, Application, Preset}
use Rattle.meaning.specs.Fields.{need, an_array, a_table, field, defaulted, table_at, values, Row, rows, or_then, list_at, tabled, each, listed, outside}
use Rattle.meaning.specs.Records.{chip_from, board_from, image_from, Front, front_of, partition_from, partitions_of, component_from, components_of, application_from, application_at, applications_of, lent_name, preset_of}
use Rattle.laws.specs.Cases.{on}
use Rattle.laws.specs.Weights.{weight, weight_all, weight_in, size, table_weighs}
use Rattle.laws.specs.RecordWeights.{sum, held, held_weighs, said, stem_size, feature_count, Carried, Says, via_says, weaker, need_says, field_says, defaulted_says, array_says, table_says, partition_says, component_says, application_says, board_says}

-- ---- answers

-- P holds of what is accepted
abbrev pub Tells : {X : Type 0} → (X → Type 0) → Answer X → Type 0
Tells P (accepted x) = P x
Tells P (refused f s p) = Unit {0}

module _ {X : Type 0} where
  after_tells : {Y : Type 0} (P : X → Type 0) (Q : Y → Type 0) (a : Answer X) (k : X → Answer Y) → Tells P a → ((x : X) → P x → Tells Q (k x)) → Tells Q (accepted_then a k)
  after_tells P Q (accepted x) k h g = g x h
  after_tells P Q (refused f s p) k h g = tt

  -- nothing is known of what comes first
  pass : {Y : Type 0} (Q : Y → Type 0) (a : Answer X) (k : X → Answer Y) → ((x : X) → Tells Q (k x)) → Tells Q (accepted_then a k)
  pass Q (accepted x) k g = g x
  pass Q (refused f s p) k g = tt

  both_tell : (P Q : X → Type 0) (a : Answer X) → Tells P a → Tells Q a → Tells (λ x. P x × Q x) a
  both_tell P Q (accepted x) h g = (h, g)
  both_tell P Q (refused f s p) h g = tt

  tells_more : (P Q : X → Type 0) (a : Answer X) → Tells P a → ((x : X) → P x → Q x) → Tells Q a
  tells_more P Q (accepted x) h g = g x h
  tells_more P Q (refused f s p) h g = tt

  told_tells : (P : X → Type 0) (s p : ℕ) (a : R X) → Says P a → Tells P (told s p a)
  told_tells P s p (ok x) h = h
  told_tells P s p (bad n) h = tt

-- ---- lists

-- an entry costs c and what g says of it
module _ {A X : Type 0} (c : ℕ) (f : X → ℕ) (g : A → ℕ) (read : A → R X) (says : (a : A) → Says (λ x. f x ≤ c + g a) (read a)) where
  each_tells : (section n m : ℕ) (ys : List A) → length ys ≤ m → Tells (λ xs. sum f xs ≤ m * c + sum g ys) (each read section n ys)
  each_tells section n m [] l = omega arith
  each_tells section n zero (a ∷ ys) l = absurd (omega arith)
  each_tells section n (suc m) (a ∷ ys) l =
      after_tells (λ x. f x ≤ c + g a) (λ xs. sum f xs ≤ suc m * c + (g a + sum g ys)) (told section n (read a)) _ (told_tells (λ x. f x ≤ c + g a) section n (read a) (says a)) (λ x h.
      after_tells (λ xs. sum f xs ≤ m * c + sum g ys) (λ xs. sum f xs ≤ suc m * c + (g a + sum g ys)) (each read section (n + 1) ys) _ (each_tells section (n + 1) m ys (omega arith)) (λ xs k. omega arith))

  listed_tells : (section limit : ℕ) (ys : List A) → Tells (λ xs. sum f xs ≤ limit * c + sum g ys) (listed read section limit ys)
  unfolding listed
  listed_tells section limit ys = on (ltb limit (length ys)) (λ e. rw e tt) (λ e. rw e (each_tells section 0 limit ys (ltb-false limit (length ys) e)))

tabled_says : {X : Type 0} (n : ℕ) (f : X → ℕ) (read : Table → R X) → ((t : Table) → Says (λ x. f x ≤ n + weight_in t) (read t)) → (v : Value) → Says (λ x. f x ≤ n + weight v) (tabled read v)
unfolding tabled
tabled_says n f read h v =
    via_says (λ t. weight_in t ≤ weight v) (λ x. f x ≤ n + weight v) (need 23 (as_table v)) read (need_says 23 (weight v) weight_in (as_table v) (table_weighs v))
    (λ t g. weaker (λ x. f x ≤ n + weight_in t) (λ x. f x ≤ n + weight v) (read t) (h t) (λ x k. omega arith))

values_weigh : (is : Items) → sum weight (values is) ≤ weight_all is
values_weigh none' = omega arith
values_weigh (item v is) = omega (arith, values_weigh is)

-- an entry with its key
abbrev row_weight : Row → ℕ
row_weight r = length r.key + weight r.value

rows_weigh : (t : Table) → sum row_weight (rows t) ≤ weight_in t
rows_weigh empty = omega arith
rows_weigh (entry k v t) = omega (arith, rows_weigh t)

-- byte order only drops entries
ranked_weighs : (t : Table) (k : List ℕ) (v : Value) → weight_in (ranked k v t) ≤ length k + (weight v + weight_in t)
ranked_weighs empty k v = omega arith
ranked_weighs (entry j w t) k v =
    on (less j k) (λ e. rw e (omega (arith, ranked_weighs t k v))) (λ e. rw e (on (same j k) (λ h. rw h (omega arith)) (λ h. rw h (omega arith))))

sorted_weighs : (t : Table) → weight_in (sorted t) ≤ weight_in t
sorted_weighs empty = omega arith
sorted_weighs (entry k v t) = omega (arith, ranked_weighs (sorted t) k v, sorted_weighs t)

-- an entry's cost: n, and what is printed of it that stands in the tree
abbrev pub part_cost : ℕ → Partition → ℕ
part_cost n p = n + length p.name

abbrev pub comp_cost : ℕ → Component → ℕ
comp_cost n c = n + said c

abbrev pub app_cost : ℕ → Application → ℕ
app_cost n a = n + (length a.pack + length a.partition)

-- ---- at the root

module _ (root : Table) where
  -- under the singular and the plural, of which one is taken
  abbrev either_held : List ℕ → List ℕ → ℕ
  either_held one many = held root one + held root many

  list_says : (one many : List ℕ) → Says (λ vs. sum weight vs ≤ either_held one many) (list_at root one many)
  unfolding list_at
  list_says one many =
      via_says (λ o. size weight_all o ≤ held root one) (λ vs. sum weight vs ≤ either_held one many) (field an_array root one) _ (arrayed one) (λ single h.
      via_says (λ o. size weight_all o ≤ either_held one many) (λ vs. sum weight vs ≤ either_held one many) (or_then (field an_array root many) single) _ (first single h) got)
    where
      arrayed : (k : List ℕ) → Says (λ o. size weight_all o ≤ held root k) (field an_array root k)
      arrayed k = field_says weight_all an_array array_says root k

      first : (o : Option Items) → size weight_all o ≤ held root one → Says (λ p. size weight_all p ≤ either_held one many) (or_then (field an_array root many) o)
      first none h = weaker (λ p. size weight_all p ≤ held root many) (λ p. size weight_all p ≤ either_held one many) (field an_array root many) (arrayed many) (λ p g. omega arith)
      first (some is) h = omega arith

      got : (o : Option Items) → size weight_all o ≤ either_held one many → sum weight (values (or_default o none')) ≤ either_held one many
      got none h = omega arith
      got (some is) h = omega (arith, values_weigh is)

  list_tells : {X : Type 0} (c limit section : ℕ) (f : X → ℕ) (read : Table → R X) → ((t : Table) → Says (λ x. f x ≤ c + weight_in t) (read t)) → (one many : List ℕ)
      → Tells (λ xs. sum f xs ≤ limit * c + either_held one many) (accepted_then (outside section (list_at root one many)) (listed (tabled read) section limit))
  list_tells c limit section f read h one many =
      after_tells (λ vs. sum weight vs ≤ either_held one many) (λ xs. sum f xs ≤ limit * c + either_held one many) (outside section (list_at root one many)) _
      (told_tells (λ vs. sum weight vs ≤ either_held one many) section 0 (list_at root one many) (list_says one many))
      (λ vs g. tells_more (λ xs. sum f xs ≤ limit * c + sum weight vs) (λ xs. sum f xs ≤ limit * c + either_held one many) (listed (tabled read) section limit vs)
      (listed_tells c f weight (tabled read) (tabled_says c f read h) section limit vs) (λ xs k. omega arith))

  table_at_lem : (k : List ℕ) → Says (λ t. weight_in t ≤ held root k) (table_at root k)
  unfolding table_at
  table_at_lem k = weaker (λ t. weight_in t ≤ 0 + held root k) (λ t. weight_in t ≤ held root k) (defaulted a_table empty root k) (defaulted_says weight_in a_table table_says root k empty) (λ t h. omega arith)

  -- what is held under the keys of each group
  abbrev pub parts_held : ℕ
  parts_held = either_held (ascii "partition") (ascii "partitions")

  abbrev pub comps_held : ℕ
  comps_held = either_held (ascii "component") (ascii "components")

  abbrev pub apps_held : ℕ
  apps_held = held root (ascii "apps")

  -- the groups hang under different keys
  pub root_holds : parts_held + (comps_held + apps_held) ≤ weight_in root
  root_holds =
      omega (arith, held_weighs root (ascii "partition" ∷ ascii "partitions" ∷ ascii "component" ∷ ascii "components" ∷ ascii "apps" ∷ []) (refl, (refl, (refl, (refl, (refl, tt))))))

  -- what each entry may cost beside what stands in the tree
  module _ (forPart forComp forApp : ℕ) (lim : Limits) where
    -- of each group: so much for as many entries as there may be, and what is held
    abbrev PartsCost : List Partition → Type 0
    PartsCost ps = sum (part_cost forPart) ps ≤ lim.partitions * forPart + parts_held

    parts_tell : Tells PartsCost (partitions_of lim root)
    unfolding partitions_of
    parts_tell =
        list_tells forPart lim.partitions in_partition (part_cost forPart) partition_from
        (λ t. weaker (λ p. length p.name ≤ weight_in t) (λ p. part_cost forPart p ≤ forPart + weight_in t) (partition_from t) (partition_says t) (λ p h. omega arith)) (ascii "partition") (ascii "partitions")

    comps_sum : (c : ℕ) (f : Component → ℕ) → ((t : Table) (x : Component) → Carried t lim.features x → f x ≤ c + weight_in t)
        → Tells (λ cs. sum f cs ≤ lim.components * c + comps_held) (components_of lim root)
    unfolding components_of
    comps_sum c f k =
        list_tells c lim.components in_component f (component_from lim.features)
        (λ t. weaker (Carried t lim.features) (λ x. f x ≤ c + weight_in t) (component_from lim.features t) (component_says t lim.features) (k t)) (ascii "component") (ascii "components")

    abbrev CompsSum : ℕ → (Component → ℕ) → List Component → Type 0
    CompsSum c f cs = sum f cs ≤ lim.components * c + comps_held

    abbrev CompsCost : List Component → Type 0
    CompsCost cs = CompsSum forComp (comp_cost forComp) cs × (CompsSum 0 stem_size cs × CompsSum (2 * lim.features) feature_count cs)

    comps_tell : Tells CompsCost (components_of lim root)
    comps_tell =
        both_tell (CompsSum forComp (comp_cost forComp)) (λ cs. CompsSum 0 stem_size cs × CompsSum (2 * lim.features) feature_count cs) (components_of lim root)
        (comps_sum forComp (comp_cost forComp) (λ t c h. omega (arith, h.text)))
        (both_tell (CompsSum 0 stem_size) (CompsSum (2 * lim.features) feature_count) (components_of lim root)
        (comps_sum 0 stem_size (λ t c h. omega (arith, h.stem))) (comps_sum (2 * lim.features) feature_count (λ t c h. omega (arith, h.few))))

    abbrev AppsCost : List Application → Type 0
    AppsCost xs = sum (app_cost forApp) xs ≤ lim.applications * (forApp + 3) + apps_held

    apps_tell : Tells AppsCost (applications_of lim root)
    unfolding applications_of
    apps_tell =
        after_tells (λ t. weight_in t ≤ apps_held) AppsCost (outside in_application (table_at root (ascii "apps"))) _
        (told_tells (λ t. weight_in t ≤ apps_held) in_application 0 (table_at root (ascii "apps")) (table_at_lem (ascii "apps")))
        (λ t h. tells_more (λ xs. sum (app_cost forApp) xs ≤ lim.applications * (forApp + 3) + sum row_weight (rows (sorted t))) AppsCost (listed (application_at lim.features) in_application lim.applications (rows (sorted t)))
        (listed_tells (forApp + 3) (app_cost forApp) row_weight (application_at lim.features) row in_application lim.applications (rows (sorted t))) (λ xs g. omega (arith, rows_weigh (sorted t), sorted_weighs t)))
      where
        row : (r : Row) → Says (λ a. app_cost forApp a ≤ forApp + 3 + row_weight r) (application_at lim.features r)
        row r =
            weaker (λ a. length a.pack + length a.partition ≤ 3 + length r.key + weight r.value) (λ a. app_cost forApp a ≤ forApp + 3 + row_weight r) (application_at lim.features r)
            (tabled_says (3 + length r.key) (λ a. length a.pack + length a.partition) (application_from lim.features r.key) (λ t. application_says t lim.features r.key) r.value) (λ a h. omega arith)

    module _ (name : List ℕ) where
      -- the board's name is the tree's or the lent one
      abbrev Named : Front → Type 0
      Named f = length f.board.name ≤ length (lent_name name) + weight_in root

      front_tells : Tells Named (front_of (lent_name name) root)
      unfolding front_of
      front_tells =
          after_tells (λ t. weight_in t ≤ held root (ascii "board")) Named (outside in_board (table_at root (ascii "board"))) _
          (told_tells (λ t. weight_in t ≤ held root (ascii "board")) in_board 0 (table_at root (ascii "board")) (table_at_lem (ascii "board"))) (λ b h.
          pass Named (outside in_image (table_at root (ascii "image"))) _ (λ i.
          pass Named (chip_from b i) _ (λ chip.
          after_tells (λ x. length x.name ≤ length (lent_name name) + weight_in b) Named (outside in_board (board_from (lent_name name) chip b)) _
          (told_tells (λ x. length x.name ≤ length (lent_name name) + weight_in b) in_board 0 (board_from (lent_name name) chip b) (board_says b (lent_name name) chip)) (λ board n.
          pass Named (outside in_image (image_from chip i)) _ (λ _. omega (arith, held_weighs root (ascii "board" ∷ []) (refl, tt)))))))

      -- what the records of a tree cost, group by group
      pub record Costs (r : Preset) : Type 0 where
        pub parts : sum (part_cost forPart) r.partitions ≤ lim.partitions * forPart + parts_held
        pub comps : sum (comp_cost forComp) r.components ≤ lim.components * forComp + comps_held
        pub stems : sum stem_size r.components ≤ comps_held
        pub features : sum feature_count r.components ≤ lim.components * (2 * lim.features) + comps_held
        pub apps : sum (app_cost forApp) r.applications ≤ lim.applications * (forApp + 3) + apps_held
        pub board : length r.board.name ≤ length (lent_name name) + weight_in root

      -- what is printed of an accepted preset stands in its tree
      pub preset_costs : Tells Costs (preset_of lim name root)
      unfolding preset_of
      preset_costs =
          after_tells Named Costs (front_of (lent_name name) root) _ front_tells (λ front f.
          after_tells PartsCost Costs (partitions_of lim root) _ parts_tell (λ partitions p.
          after_tells CompsCost Costs (components_of lim root) _ comps_tell (λ components c.
          after_tells AppsCost Costs (applications_of lim root) _ apps_tell (λ applications a.
          record { parts = p; comps = c.0; stems = omega (arith, c.1.0); features = c.1.1; apps = a; board = f }))))
