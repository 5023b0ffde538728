-- Every book that commands reach has its sequences in line.
use Rattle.std.proofs.Common.{◌≡◌, true, List, [], ◌∷◌, refl}
use Rattle.std.specs.List.{list_all}
use Rattle.std.proofs.lemmas.Bool.{and_parts}
use Rattle.book_rows.specs.Answer.{book_after, empty_book, next}
use Rattle.book_rows.specs.Form.{keeps_form}
use Rattle.book_rows.specs.declared.commands.Command.{Command}
use Rattle.book_rows.specs.declared.rows.Book.{Book}
use Rattle.laws_sequences.specs.CommandLaws.{LinksGiveOwnIds, LinksStay, SequencesGoOn, SoundHasLinks}
use Rattle.laws_sequences.specs.Links.{HasLinks}
use Rattle.laws_sequences.proofs.EachCommand.{commands_keep_links}
use Rattle.laws_sequences.proofs.RuleParts.{all_linked, all_published}
use Rattle.laws_sequences.proofs.TickedIds.{sound_has_own_ids}

pub empty_links : HasLinks empty_book
empty_links = record {
  supervisors = record { rows = refl; sources = tt; room = refl };
  supervised = record { room = refl; each = λ u i. absurd i };
  linked = record { counted = λ source group. refl; chained = tt; own = tt };
  replicas = λ t i e. absurd i;
  published = record { each = λ u i. absurd i; groups = λ m i e. absurd i };
}

pub links_after : (cs : List Command) (b : Book) → list_all keeps_form cs ≡ true → HasLinks b → HasLinks (book_after b cs)
links_after [] b forms h = h
links_after (c ∷ cs) b forms h =
    let both = and_parts (keeps_form c) (list_all keeps_form cs) forms in
    links_after cs (next b c) both.1 (commands_keep_links b c both.0 h)

pub links_stay : LinksStay
links_stay cs forms = links_after cs empty_book forms empty_links

pub sequences_go_on : SequencesGoOn
sequences_go_on cs forms = (links_stay cs forms).linked

pub sound_has_links : SoundHasLinks
sound_has_links b sound =
    let own = sound_has_own_ids b sound in
    record {
      supervisors = own.supervisors;
      supervised = own.supervised;
      linked = all_linked b sound.sequences;
      replicas = own.replicas;
      published = all_published b sound.sequences;
    }

pub links_give_own_ids : LinksGiveOwnIds
links_give_own_ids b h = record { supervisors = h.supervisors; supervised = h.supervised; counted = h.linked.counted; replicas = h.replicas }
