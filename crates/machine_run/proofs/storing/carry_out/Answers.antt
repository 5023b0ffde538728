use Rattle.std.proofs.Common.{◌++◌, ℕ, List, length, rules, arith, ap, sym, ◌∙◌, subst}
use Rattle.std.proofs.lemmas.List.{take_all}
use Rattle.machine_run.specs.Steps.{Storing, Between}
use Rattle.machine_run.specs.Stores.{with_record}
use Rattle.machine_run.proofs.Replying.{since_weaken, widen, say_since, say_now, said_some, still}
use Rattle.machine_run.proofs.storing.carry_out.Goals as goal

pub returns-in_err-after-clause-any_moment : goal.returns-in_err-after-clause-any_moment
returns-in_err-after-clause-any_moment g c = λ told content store.
    let old = g.H.Host.desk c.args.host.now in
    since_weaken (Storing content c.args.entry.now old) (Between content c.args.entry.now c.args.replies.now old) old (g.H.Host.desk c.store_record.new.host) (c.store_record.ensures.any_moment told content store) (widen content c.args.entry.now c.args.replies.now old)

pub returns-in_err-after-clause-now : goal.returns-in_err-after-clause-now
returns-in_err-after-clause-now g c = λ told content store.
    let new = g.H.Host.desk c.store_record.new.host in
    widen content c.args.entry.now c.args.replies.now (g.H.Host.desk c.args.host.now) new.said new.seen (c.store_record.ensures.now told content store)

pub returns-in-Ok : goal.returns-in-Ok
returns-in-Ok g c =
    let s = c.store_record.ensures in
    let entry = c.args.entry.now in
    let replies : List ℕ = c.args.replies.now in
    let old = g.H.Host.desk c.args.host.now in
    let mid = g.H.Host.desk c.store_record.new.host in
    let new = g.H.Host.desk c.say_all.new.host in
    let after = c.in_ok-after.after in
    let laws = g.met.J.Journal.laws in
    record {
      opened = search rules;
      counts = search rules;
      any_moment = λ told content store. say_since content entry replies old mid new (s.said told) (s.others told) (c.say_all.ensures.some told) (λ f left. (laws told).leaves after (with_record content entry) c.store_record.new.host f (c.in_ok-after.ensures.store told content store) left) (s.any_moment told content store);
      now = λ told content store. say_now content entry replies old mid new (s.said told) (s.others told) (c.say_all.ensures.some told) ((laws told).says after (with_record content entry) c.store_record.new.host (c.in_ok-after.ensures.store told content store)) (g.met.H.Host.reads_now told c.say_all.new.host);
      said = λ told. (c.in-Ok.ensures.said told).said ∙ ap (λ (l : List ℕ). mid.said ++ l) (take_all (length replies) replies (omega arith)) ∙ ap (λ (l : List ℕ). l ++ replies) (s.said told);
      limit = c.in_ok-after.ensures.limit;
      store = λ told content store. (laws told).stays after (with_record content entry) c.store_record.new.host c.say_all.new.host replies (c.say_all.ensures.some told).count (c.in_ok-after.ensures.store told content store) (c.say_all.ensures.some told).says;
      keeps = λ told content store. subst (λ (f : ℕ → List ℕ). g.J.Journal.kept content (with_record content entry) old.seen f) (sym (c.say_all.ensures.some told).says.seen) (c.in_ok-after.ensures.keeps told content store);
      room = c.in_ok-after.ensures.room;
      stop = search rules;
      memory = search rules;
      full = search rules;
    }

pub returns-in-Err : goal.returns-in-Err
returns-in-Err g c =
    let s = c.store_record.ensures in
    let entry = c.args.entry.now in
    let replies : List ℕ = c.args.replies.now in
    let old = g.H.Host.desk c.args.host.now in
    let mid = g.H.Host.desk c.store_record.new.host in
    let new = g.H.Host.desk c.say_all.new.host in
    let after = c.in_ok-after.after in
    let laws = g.met.J.Journal.laws in
    record {
      opened = search rules;
      counts = search rules;
      any_moment = λ told content store. say_since content entry replies old mid new (s.said told) (s.others told) (c.say_all.ensures.some told) (λ f left. (laws told).leaves after (with_record content entry) c.store_record.new.host f (c.in_ok-after.ensures.store told content store) left) (s.any_moment told content store);
      now = λ told content store. say_now content entry replies old mid new (s.said told) (s.others told) (c.say_all.ensures.some told) ((laws told).says after (with_record content entry) c.store_record.new.host (c.in_ok-after.ensures.store told content store)) (g.met.H.Host.reads_now told c.say_all.new.host);
      said = λ told. tt;
      limit = tt;
      store = λ told. tt;
      keeps = λ told. tt;
      room = λ told. tt;
      stop = (
        search rules,
        λ told content store. record {
          holds = still content entry replies old mid new (s.said told) (s.others told) (c.say_all.ensures.some told) ((laws told).says after (with_record content entry) c.store_record.new.host (c.in_ok-after.ensures.store told content store));
          room = c.in_ok-after.ensures.room told content store;
          keeps = subst (λ (f : ℕ → List ℕ). g.J.Journal.kept content (with_record content entry) old.seen f) (sym (c.say_all.ensures.some told).says.seen) (c.in_ok-after.ensures.keeps told content store);
          some = search rules;
          out = (c.say_all.ensures.some told).count;
          said_is = said_some content entry replies old mid new (s.said told) (s.others told) (c.say_all.ensures.some told);
        },
      );
      memory = search rules;
      full = search rules;
    }
