-- The value read first is the next number, so the key can hang it up.
use borrow.Author.Rules.{rules}
use Rattle.toml_lite.proofs.Assigning.{setting_none, setting_fault, setting_done, setting_hangs}
use Rattle.toml_lite.proofs.setting.Goals as goal

pub returns-then-is_empty : goal.returns-then-is_empty
returns-then-is_empty c = setting_none _ _ _ _ _ _ _ c.requires (search rules)

pub returns-in_err-st : goal.returns-in_err-st
returns-in_err-st c = setting_fault _ _ _ _ _ _ _ c.requires (search rules) _ _ _ c.value.ensures _ c.in_err-st.was _ (search rules)

pub returns : goal.returns
returns c = setting_done _ _ _ _ _ _ _ c.requires (search rules) _ _ _ c.value.ensures _ c.in_ok-st.was _ _ _ c.hang_key.ensures

pub hang_key-requires : goal.hang_key-requires
hang_key-requires c = setting_hangs _ _ _ _ _ _ c.requires (search rules) _ _ _ c.value.ensures _ c.in_ok-st.was
