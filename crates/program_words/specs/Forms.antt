-- The forms of the command line.
use Rattle.std.specs.Prelude.{◌&&◌, ◌==◌, ◌∷◌, ◌≡◌, Bool, Err, List, None, Ok, Option, Result, Some, [], bytes_eq, codes, false, if◌then◌else◌, is_some, length, nat_le, not, option_and_then, option_map, true, ℕ}
use Rattle.clap.specs.Words.{Row, Text, first_of}
use Rattle.program_words.specs.Numbers.{blocks_of, number_of}
use Rattle.program_words.specs.declared.fault.WordsFault.{WordsFault}
use Rattle.program_words.specs.declared.fault.WordsFault.TheVariants.{OutOfMemory, Usage}
use Rattle.program_words.specs.declared.form.Form.{Form as CodeForm}
use Rattle.program_words.specs.declared.form.Form.TheVariants as code

-- what words ask for
pub data Form : Type 0 where
  run : (store : Text) → Form
  load : (number blocks : ℕ) (store : Text) → Form

-- a form of the code, without where its texts lie in memory
abbrev pub form_view : CodeForm → Form
form_view (code.Run store) = run store.now
form_view (code.Load number blocks store) = load number blocks store.now

-- ---- the forms of words

abbrev pub begins_with_hyphen : Text → Bool
begins_with_hyphen [] = false
begins_with_hyphen (x ∷ xs) = x == 45

-- the name of a store: 1 to 4,096 bytes, the first of which isn't `-`
abbrev pub is_store : Text → Bool
is_store word = nat_le 1 (length word) && nat_le (length word) 4096 && not (begins_with_hyphen word)

abbrev pub run_of : Text → Text → Option Form
run_of name store = if bytes_eq name (codes "run") && is_store store then Some (run store) else None

-- the load of these words: a number, and how many blocks
abbrev pub load_with : Text → Text → Text → Option Form
load_with number blocks store = option_and_then (λ n. option_map (λ b. load n b store) (blocks_of blocks)) (number_of number)

abbrev pub load_of : Text → Text → Text → Text → Option Form
load_of name number blocks store = if bytes_eq name (codes "load") && is_store store then load_with number blocks store else None

-- the form of the words: `run STORE` or `load NUMBER BLOCKS STORE`. No other words are of any
unfoldable pub form_of : List Text → Option Form
form_of (name ∷ store ∷ []) = run_of name store
form_of (name ∷ number ∷ blocks ∷ store ∷ []) = load_of name number blocks store
form_of _ = None

-- ---- reading them

-- What reading the words answers: their form, or that they have none. Memory is lacking for words of a form alone.
abbrev pub ReadsForm : Option Form → Result CodeForm WordsFault → Type 0
ReadsForm form (Ok found) = form ≡ Some (form_view found)
ReadsForm form (Err Usage) = form ≡ None
ReadsForm form (Err OutOfMemory) = is_some form ≡ true

-- the forms of rows, whether or not the words are spelled so
abbrev pub run_in : List Row → Option Form
run_in rows = option_map (λ store. run store) (first_of (codes "store") rows)

abbrev pub load_by : Option Text → Option Text → Option Text → Option Form
load_by (Some number) (Some blocks) (Some store) = load_with number blocks store
load_by _ _ _ = None

abbrev pub load_in : List Row → Option Form
load_in rows = load_by (first_of (codes "number") rows) (first_of (codes "blocks") rows) (first_of (codes "store") rows)

-- the form of a subcommand's name and its rows
abbrev pub named : Text → List Row → Option Form
named name rows = if bytes_eq name (codes "run") then run_in rows else if bytes_eq name (codes "load") then load_in rows else None

abbrev pub given_by : Option (Text × List Row) → Option Form
given_by None = None
given_by (Some p) = named p.0 p.1
