use Rattle.std.proofs.Common.{inl, inr, sym}
use Rattle.timeline_view.proofs.Rooting.{met_back, met_kept, met_taken}
use Rattle.timeline_view.proofs.marks.RootsKeeperMark.take.Goals as goal

pub returns-in-Ok-clause-taken : goal.returns-in-Ok-clause-taken
returns-in-Ok-clause-taken c = inr (met_taken c.args.self.now.met.items c.push_twin.new.ids.items c.args.mark.now.root c.in-Ok.ensures.ok)

pub returns-in-Ok-clause-kept : goal.returns-in-Ok-clause-kept
returns-in-Ok-clause-kept c = λ s m h. elim h [ inl e ↦ inl e | inr k ↦ inr (met_kept c.args.self.now.met.items c.push_twin.new.ids.items c.args.mark.now.root c.in-Ok.ensures.ok m.root k) ]

pub returns-in-Ok-clause-sound : goal.returns-in-Ok-clause-sound
returns-in-Ok-clause-sound c = λ rows test sound there on a i.
    elim (met_back c.args.self.now.met.items c.push_twin.new.ids.items c.args.mark.now.root c.in-Ok.ensures.ok a i) [
      | inl k ↦ sound a k
      | inr e ↦ (c.args._number, c.args.mark.now, there, sym e)
    ]
