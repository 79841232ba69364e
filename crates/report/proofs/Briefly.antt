-- What a line says of an entry is what the entry's record has: one law for each.
use Prim.Native.Nat.{ℕ}
use mathlib.Core.List.{List}
use mathlib.Core.Path.{◌≡◌}
use Rattle.meaning.specs.Base.{ascii}
use Rattle.tree.specs.declared.Value.{Value}
use Rattle.tree.specs.Doors.{value_at}
use Rattle.schema.specs.declared.Text.{Text}
use Rattle.schema.specs.declared.Text.TheVariants as texts
use Rattle.schema.specs.declared.Word.TheVariants as words
use Rattle.schema.specs.Texts.{or_text}
use Rattle.parse.specs.declared.field.KindRead.{KindRead}
use Rattle.parse.specs.declared.field.TextRead.{TextRead}
use Rattle.parse.specs.declared.front.TableRead.{TableRead}
use Rattle.parse.specs.Fields.{text_at, kind_at}
use Rattle.parse.specs.Component.{component_read, head_read, role_read}
use Rattle.parse.specs.Application.{application_read, names}
use Rattle.parse.specs.Entries.{entry_table, component_at, application_at}
use Rattle.plan.specs.Stems.{key_of}
use Rattle.report.specs.Shown as shown

module _ (room store : List ℕ) (made n : ℕ) (v : Value) (t : TableRead) (ev : v ≡ value_at room store n) (et : t ≡ entry_table room made v) (o p : TextRead) (partition : Text)
    (eo : o ≡ text_at room store t.fields (ascii "name")) (ep : p ≡ text_at room store t.fields (ascii "partition")) where
  pub component_brief_lem : (k : KindRead) → k ≡ kind_at room store t.fields → partition ≡ or_text p.text (texts.Stored 0 0)
      → record { kind = k.kind; name = o.text; partition = partition } ≡ shown.component_brief (component_at room store made n 32).component
  unfolding component_at component_read head_read role_read
  component_brief_lem k ek e = rw (e, ek, eo, ep, et, ev)

  pub application_brief_lem : (key name : Text) → key ≡ key_of room n → name ≡ or_text o.text key → partition ≡ or_text p.text (texts.Fixed words.App)
      → record { «package» = key; name = name; partition = partition } ≡ shown.application_brief (application_at room store made n 32).application
  unfolding application_at application_read names
  application_brief_lem key name ek en e = rw (e, en, ek, eo, ep, et, ev)
