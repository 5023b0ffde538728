-- Lines lead as their commands do, and stores stand for books that commands reach.
use Rattle.std.proofs.Common.{◌++◌, ◌≡◌, ◌∙◌, ◌∷◌, Bool, List, None, Option, Some, [], ap, cond, false, refl, subst, sym, true, ℕ}
use Rattle.std.specs.List.{list_all}
use Rattle.std.proofs.lemmas.Bool.{and_from}
use Rattle.book_rows.specs.Answer.{book_after, changes, empty_book, next}
use Rattle.book_rows.specs.Form.{AllKeepForm, keeps_form}
use Rattle.book_rows.specs.declared.commands.Command.{Command}
use Rattle.book_rows.specs.declared.rows.Book.{Book}
use Rattle.cmd_codec.specs.Records.{commands_of}
use Rattle.cmd_words.specs.Lines.{CommandOf}
use Rattle.machine_run.specs.Good.{store_good}
use Rattle.machine_run.specs.LineItems.{LineItem, short, long}
use Rattle.machine_run.specs.Rules.{HasGoodStates, Rules, state_after}
use Rattle.machine_run.specs.Stores.{store_of}
use Rattle.overlord_rules.specs.OverlordRules.{apply, book_by, book_of, load_of, overlord_rules, restore_by, restore_of}
use Rattle.overlord_rules.proofs.RecordLaws.{line_form}
use Rattle.laws_offsets.proofs.Lists.{more_pass}
use Rattle.laws_sequences.proofs.ReachedBooks.{after_both}
use Rattle.laws_runs.specs.RunCommands.{IsReached, LeadAsCommands, LinesLeadAsCommands, RunsReach, StoreBooksAreReached, commands_in, first_of}
use Rattle.laws_runs.proofs.FormedRecords.{record_forms}

-- ---- lines

-- one line, a command or not, and the others
lead_first : (b : Book) (o : Option Command) (lines : List LineItem) → ((c : Command) → o ≡ Some c → keeps_form c ≡ true) → ((later : Book) → LeadAsCommands later lines)
    → AllKeepForm (first_of o (commands_in lines)) × (state_after overlord_rules (book_by b o) lines ≡ book_after b (first_of o (commands_in lines)))
lead_first b None lines form rest = ((rest b).forms, (rest b).book)
lead_first b (Some c) lines form rest = (and_from (keeps_form c) (list_all keeps_form (commands_in lines)) (form c refl) (rest (next b c)).forms, (rest (next b c)).book)

pub lines_lead_as_commands : LinesLeadAsCommands
unfolding book_of
lines_lead_as_commands b [] = record { forms = refl; book = refl }
lines_lead_as_commands b (short line ∷ lines) =
    let both = lead_first b (CommandOf line) lines (line_form line) (λ later. lines_lead_as_commands later lines) in
    record { forms = both.0; book = both.1 }
lines_lead_as_commands b (long size ∷ lines) = let rest = lines_lead_as_commands b lines in record { forms = rest.forms; book = rest.book }

-- ---- reached books

empty_reached : IsReached empty_book
empty_reached = record { commands = []; forms = refl; book = refl }

reached_on : (b : Book) (cs : List Command) → IsReached b → AllKeepForm cs → IsReached (book_after b cs)
reached_on b cs by forms = record {
  commands = by.commands ++ cs;
  forms = more_pass keeps_form by.commands cs by.forms forms;
  book = ap (λ (start : Book). book_after start cs) by.book ∙ sym (after_both by.commands cs empty_book);
}

line_reached : (b : Book) (line : LineItem) → IsReached b → IsReached (overlord_rules.next b line)
line_reached b line by = let lead = lines_lead_as_commands b (line ∷ []) in subst IsReached (sym lead.book) (reached_on b (commands_in (line ∷ [])) by lead.forms)

loaded_reached : (snapshot : List ℕ) (b : Book) → load_of snapshot ≡ Some b → IsReached b
loaded_reached [] b e = let same : empty_book ≡ b = cc in subst IsReached same empty_reached
loaded_reached (byte ∷ bytes) b e = absurd (cc)

-- commands that are carried out
applied_leads : (cs : List Command) (b after : Book) → apply b cs ≡ Some after → book_after b cs ≡ after
applied_leads [] b after e = cc
applied_leads (c ∷ cs) b after e = by (changes b c) e (λ e. applied_leads cs (next b c) after e)
  where
    by : (goes : Bool) → cond goes (apply (next b c) cs) None ≡ Some after → (apply (next b c) cs ≡ Some after → book_after (next b c) cs ≡ after) → book_after (next b c) cs ≡ after
    by true e rest = rest e
    by false e rest = absurd (cc)

restored_reached : (b : Book) (body : List ℕ) (after : Book) → IsReached b → restore_of b body ≡ Some after → IsReached after
unfolding restore_of
restored_reached b body after by e = of (commands_of body) (λ cs is. record_forms body cs is) e
  where
    of : (o : Option (List Command)) → ((cs : List Command) → o ≡ Some cs → list_all keeps_form cs ≡ true) → restore_by b o ≡ Some after → IsReached after
    of None forms e = absurd (cc)
    of (Some cs) forms e = subst IsReached (applied_leads cs b after e) (reached_on b cs by (forms cs refl))

-- ---- stores

-- the same rules, with the reached books as the good ones: what a store stands for is the same
abbrev reaching_rules : Rules Book LineItem
reaching_rules = record overlord_rules { good = IsReached }

reached_books : HasGoodStates reaching_rules
reached_books = record {
  first_good = empty_reached;
  next_good = line_reached;
  load_good = loaded_reached;
  restore_good = restored_reached;
}

pub store_books_are_reached : StoreBooksAreReached
unfolding store_of
store_books_are_reached first second b e = store_good reaching_rules reached_books first second b e

pub runs_reach : RunsReach
runs_reach first second b lines e =
    let lead = lines_lead_as_commands b lines in
    subst IsReached (sym lead.book) (reached_on b (commands_in lines) (store_books_are_reached first second b e) lead.forms)
