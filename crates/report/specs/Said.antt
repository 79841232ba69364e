-- The lines say what 01 says of the preset that the rooms' records stand for, and of its boot chain.
use Rattle.std.specs.Prelude.{ℕ, ◌≤◌, ◌≡◌}
use mathlib.Core.List.{List as Seq, [], ◌∷◌, ◌++◌, map, append_assoc, append-nil}
use Rattle.std.proofs.Math.Option.{none}
use Rattle.std.proofs.Math.Path.{refl, sym, ap}
use Rattle.std.proofs.Common.{◌∙◌}
use Rattle.std.proofs.Math.ListN.{length, length-map}
use Rattle.meaning.specs.Limits.{of01}
use Rattle.meaning.specs.Schema as schemas
use Rattle.meaning.specs.Print.{Field, Line, of_word, of_number, wordOk, spelling, shown, spaced, ended, page}
use Rattle.meaning.specs.Plan as plans
use Rattle.meaning.specs.Listing as meant
use Rattle.laws.specs.Pages.{page_append}
use Rattle.tree.specs.Doors.{fields_of}
use Rattle.tree.specs.Spans.{items_count}
use Rattle.schema.specs.declared.Partition.{Partition}
use Rattle.schema.specs.declared.Component.{Component}
use Rattle.schema.specs.declared.Application.{Application}
use Rattle.parse.specs.Entries.{partition_at, component_at, application_at}
use Rattle.parse.specs.Meant.{partition_meant, component_meant, application_meant}
use Rattle.parse.specs.Refused.{lent_text, partition_numbers, component_numbers, application_numbers}
use Rattle.parse.specs.Front.{board_read, front_of}
use Rattle.parse.specs.Views.{partition_list, component_list, counts_of, device_of}
use Rattle.parse.specs.Whole.{preset_meant, partition_of, component_of, application_of}
use Rattle.validate.specs.Gathered.{components}
use Rattle.plan.specs.declared.component.Build.{Build}
use Rattle.plan.specs.declared.choice.Choice.TheVariants.{BootChain}
use Rattle.plan.specs.Builds.{builds_of}
use Rattle.plan.specs.PlannedSaid.{build_meant}
use Rattle.plan.specs.BuildsSaid.{builds_say}
use Rattle.plan.specs.StemSaid.{boot_stem_means}
use Rattle.report.specs.Shown as rooms
use Rattle.report.specs.Shown.{each}

-- lines of entries are lines of what the entries stand for
each_meant : {X Y : Type 0} (f : X → Seq ℕ) (g : Y → Line) (of : X → Y) → ((x : X) → f x ≡ ended (g (of x))) → (xs : Seq X) → each f xs ≡ page (map g (map of xs))
each_meant f g of h [] = refl
each_meant f g of h (x ∷ xs) = rw (h x, each_meant f g of h xs)

-- entries, and what is built of them
in_two : (a b c d rest : Seq ℕ) → (a ++ (b ++ (c ++ d))) ++ rest ≡ a ++ (b ++ (c ++ (d ++ rest)))
in_two a b c d rest = rw (append_assoc a (b ++ (c ++ d)) rest, append_assoc b (c ++ d) rest, append_assoc c d rest)

-- the fields of a line in two parts
spaced_parts : (fs gs : Seq Field) (s : Seq ℕ) → spaced fs ++ (spaced gs ++ s) ≡ spaced (fs ++ gs) ++ s
spaced_parts [] gs s = refl
spaced_parts (f ∷ fs) gs s =
    ap (λ (t : Seq ℕ). 32 ∷ t)
    (append_assoc (shown f) (spaced fs) (spaced gs ++ s) ∙ ap (λ (t : Seq ℕ). shown f ++ t) (spaced_parts fs gs s) ∙ sym (append_assoc (shown f) (spaced (fs ++ gs)) s))

module _ (room store : Seq ℕ) (made : ℕ) (name : Seq ℕ) where
  abbrev preset : schemas.Preset
  preset = preset_meant room store made name (fields_of room made 1) of01 (lent_text name)

  abbrev plan : plans.Plan
  plan = plans.composed preset plans.boot_chain none

  -- ---- a line

  part_says : (p : Partition) → rooms.part store p ≡ ended (meant.part_line (partition_meant room store made name p))
  unfolding rooms.part meant.part_line
  part_says p = refl

  comp_says : (c : Component) → rooms.comp store name (rooms.component_brief c) ≡ ended (meant.comp_line (component_meant room store made name c))
  unfolding rooms.comp meant.comp_line
  comp_says c = refl

  app_says : (a : Application) → rooms.app store name (rooms.application_brief a) ≡ ended (meant.app_line (application_meant room store made name a))
  unfolding rooms.app meant.app_line
  app_says a = refl

  build_says : (b : Build) → rooms.build_of room store made name b ≡ ended (meant.build_line (build_meant room store made name b))
  unfolding rooms.build meant.build_line
  build_says b = refl

  ok_says : rooms.ok room store made ≡ ended (meant.ok_line made preset)
  unfolding rooms.ok rooms.counts counts_of device_of front_of board_read meant.ok_line
  ok_says =
      let root = fields_of room made 1 in
      let counts = counts_of room store made in
      let ps : length preset.partitions ≡ counts.partitions = length-map (partition_numbers room store made root) (partition_of room store made name) ∙ items_count room (partition_list room store made).end (partition_list room store made).place in
      let cs : length preset.components ≡ counts.components = length-map (component_numbers room store made root) (component_of room store made name 32) ∙ items_count room (component_list room store made).end (component_list room store made).place in
      let more : length preset.applications ≡ counts.applications = length-map (application_numbers room store made root 64) (application_of room store made name 32) in
      let chip = of_word (meant.chip_named preset.board.chip) in
      let media = of_word (meant.media_named preset.image.media) in
      rw (ps, cs, more)
      (append_assoc (spelling wordOk) (spaced (chip ∷ media ∷ [])) (rooms.counts room store made)
      ∙ ap (λ (t : Seq ℕ). spelling wordOk ++ t)
      (spaced_parts (chip ∷ media ∷ []) (of_number counts.partitions ∷ of_number counts.components ∷ of_number counts.applications ∷ of_number made ∷ []) (10 ∷ []))
      ∙ sym (append_assoc (spelling wordOk) (spaced (chip ∷ media ∷ of_number counts.partitions ∷ of_number counts.components ∷ of_number counts.applications ∷ of_number made ∷ [])) (10 ∷ [])))

  -- ---- the lists

  parts_say : rooms.parts room store made ≡ page (map meant.part_line preset.partitions)
  parts_say =
      each_meant (rooms.part_at room store made) meant.part_line (partition_of room store made name)
      (λ n. part_says (partition_at room store made n).partition) (partition_numbers room store made (fields_of room made 1))

  comps_say : rooms.comps room store made name ≡ page (map meant.comp_line preset.components)
  comps_say =
      each_meant (rooms.comp_at room store made name) meant.comp_line (component_of room store made name 32)
      (λ n. comp_says (component_at room store made n 32).component) (component_numbers room store made (fields_of room made 1))

  apps_say : rooms.apps room store made name ≡ page (map meant.app_line preset.applications)
  apps_say =
      each_meant (rooms.app_at room store made name) meant.app_line (application_of room store made name 32)
      (λ n. app_says (application_at room store made n 32).application) (application_numbers room store made (fields_of room made 1) 64)

  module _ (few : length (components room store made) ≤ 64) where
    builds_lines_say : rooms.builds room store made name ≡ page (map meant.build_line plan.builds)
    unfolding plans.composed
    builds_lines_say =
        each_meant (rooms.build_of room store made name) meant.build_line (build_meant room store made name) build_says (builds_of room store made BootChain)
        ∙ ap (λ (bs : Seq plans.Build). page (map meant.build_line bs)) (builds_say room store made name BootChain tt few)

    -- the lines of the rooms are 01's lines
    pub lines_say : rooms.lines room store made name ≡ page (meant.lines_of made preset plan)
    unfolding plans.composed meant.lines_of
    lines_say =
        rw (ok_says, parts_say, comps_say, apps_say, builds_lines_say, boot_stem_means room store made name, page_append, page_append, page_append, page_append, append-nil)
        (in_two (ended (meant.ok_line made preset)) (page (map meant.part_line preset.partitions)) (page (map meant.comp_line preset.components)) (page (map meant.app_line preset.applications))
        (page (map meant.build_line plan.builds) ++ ended (meant.stem_line plan.stem)))
