-- An application's fields: one law for each group, from what its readers said.
use Prim.Native.Nat.{ℕ}
use mathlib.Core.List.{List}
use mathlib.Core.Path.{◌≡◌}
use Rattle.meaning.specs.Base.{ascii}
use Rattle.tree.specs.declared.Fields.{Fields}
use Rattle.tree.specs.declared.Value.{Value}
use Rattle.tree.specs.Doors.{field}
use Rattle.schema.specs.declared.Text.{Text}
use Rattle.schema.specs.declared.Text.TheVariants as texts
use Rattle.schema.specs.declared.Word.TheVariants as words
use Rattle.schema.specs.Texts.{or_text, aic_of}
use Rattle.features.specs.declared.FeaturesRead.{FeaturesRead}
use Rattle.features.specs.Pieces.{features_read}
use Rattle.parse.specs.declared.field.TextRead.{TextRead}
use Rattle.parse.specs.declared.field.NumberRead.{NumberRead}
use Rattle.parse.specs.declared.application.Names.{Names}
use Rattle.parse.specs.declared.application.Loading.{Loading}
use Rattle.parse.specs.Fields.{first_fault, text_at, number_at}
use Rattle.parse.specs.Application.{names, loading, application_read}

module _ (room store : List ℕ) (f : Fields) where
  pub names_are : (key : Text) (n p t a : TextRead) (late mid all : ℕ) (called part file aic attr : Text)
      → n ≡ text_at room store f (ascii "name") → p ≡ text_at room store f (ascii "partition")
      → t ≡ text_at room store f (ascii "filename") → a ≡ text_at room store f (ascii "attr")
      → late ≡ first_fault t.fault a.fault → mid ≡ first_fault p.fault late → all ≡ first_fault n.fault mid
      → called ≡ or_text n.text key → part ≡ or_text p.text (texts.Fixed words.App)
      → aic ≡ aic_of called → file ≡ or_text t.text aic → attr ≡ or_text a.text (texts.Fixed words.Optional)
      → record { fault = all; name = called; partition = part; filename = file; attr = attr } ≡ names room store f key
  unfolding names
  names_are key n p t a late mid all called part file aic attr e1 e2 e3 e4 e5 e6 e7 e8 e9 e10 e11 e12
      = rw (e7, e6, e5, e9, e11, e10, e12, e8, e1, e2, e3, e4)

  module _ (made limit : ℕ) where
    pub loading_is : (v : Value) (l : FeaturesRead) (a o : NumberRead) (late all : ℕ)
        → v ≡ field room store f (ascii "features") → l ≡ features_read room store made limit v
        → a ≡ number_at room store f (ascii "load_address") → o ≡ number_at room store f (ascii "entry_offset")
        → late ≡ first_fault a.fault o.fault → all ≡ first_fault l.fault late
        → record { fault = all; features = l.features; load_address = a.number; entry_offset = o.number } ≡ loading room store made f limit
    unfolding loading
    loading_is v l a o late all e1 e2 e3 e4 e5 e6 = rw (e6, e5, e2, e1, e3, e4)

    pub application_is : (key : Text) (n : Names) (l : Loading) (all : ℕ)
        → n ≡ names room store f key → l ≡ loading room store made f limit → all ≡ first_fault n.fault l.fault
        → record {
          fault = all;
          application = record {
            «package» = key;
            name = n.name;
            partition = n.partition;
            filename = n.filename;
            attr = n.attr;
            features = l.features;
            load_address = l.load_address;
            entry_offset = l.entry_offset;
          };
        }
        ≡ application_read room store made f key limit
    unfolding application_read
    application_is key n l all e1 e2 e3 = rw (e3, e1, e2)
