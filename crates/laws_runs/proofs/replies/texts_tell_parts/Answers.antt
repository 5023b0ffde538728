use Rattle.laws_runs.proofs.SoundParts.{sound_parts_have_texts}
use Rattle.laws_runs.proofs.ToldParts.{texts_tell_contents, texts_tell_timelines}
use Rattle.laws_runs.proofs.replies.texts_tell_parts.Goals as goal

pub returns : goal.returns
returns c = record { timelines = texts_tell_timelines; contents = texts_tell_contents; sound = sound_parts_have_texts }
