-- What a safe call asks for, as one of the four calls of 02, No. 8.
use Rattle.std.specs.Prelude.{ℕ, List}
use Rattle.safe_rules.specs.SafeCalls.{SafeCall, safe_make, safe_resize, safe_write, safe_remove}
use Rattle.named_changes.specs.declared.Asked.{Asked}
use Rattle.named_changes.specs.declared.Asked.TheVariants.{Make, Resize, Write, Remove}

-- the call by directory, name and text: the comment of a make, the bytes of a write
abbrev pub call_of : Asked → ℕ → List ℕ → List ℕ → SafeCall
call_of (Make type day minute tick protection) h name text = safe_make h type name text day minute tick protection
call_of (Resize size) h name text = safe_resize h name size
call_of (Write offset) h name text = safe_write h name offset text
call_of Remove h name text = safe_remove h name
