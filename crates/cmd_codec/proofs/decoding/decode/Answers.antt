use Rattle.std.proofs.Common.{◌≡◌, ◌++◌, ◌∷◌, [], ◌∙◌, ◌<◌, ap, sym, length, arith, inl}
use Rattle.std.proofs.lemmas.Bool.{eqb-true}
use Rattle.std.proofs.lemmas.List.{length-append}
use Rattle.cmd_codec.specs.Records.{record_of}
use Rattle.cmd_codec.proofs.RecordBytes.{more, no_command, whole, faulty, empty_body}
use Rattle.cmd_codec.proofs.decoding.decode.Goals as goal

pub returns-then-is_empty : goal.returns-then-is_empty
returns-then-is_empty c = empty_body c.args.body.now (eqb-true _ 0 (sym c.if-is_empty.ensures))

pub loop-cursor-smaller : goal.loop-cursor-smaller
loop-cursor-smaller c =
    let i = c.loop-cursor.invariant in
    (more c.args.body.now c.loop-cursor.cursor.rest c.read_command.new.cursor.rest c.loop-cursor.commands.items c.in-Ok.command i.parts i.spelled i.fits c.in-Ok.ensures.0).less

pub loop-cursor-preserved : goal.loop-cursor-preserved
loop-cursor-preserved c =
    let i = c.loop-cursor.invariant in
    let m = more c.args.body.now c.loop-cursor.cursor.rest c.read_command.new.cursor.rest c.loop-cursor.commands.items c.in-Ok.command i.parts i.spelled i.fits c.in-Ok.ensures.0 in
    let items = c.in_ok-push-in-Ok.ensures.items in
    record {
      parts = rw items m.parts;
      spelled = rw items m.spelled;
      place = c.in-Ok.ensures.1 ∙ i.place;
      fits = m.fits;
      some = rw items (omega (arith, length-append c.loop-cursor.commands.items (c.in-Ok.command ∷ [])));
    }

pub returns-in-Err-Bad : goal.returns-in-Err-Bad
returns-in-Err-Bad c =
    let i = c.loop-cursor.invariant in
    let parts : length c.args.body.now ≡ length (record_of c.loop-cursor.commands.items ++ c.loop-cursor.cursor.rest) = ap length i.parts in
    let at = c.place-at.ensures in
    let none = rw c.in-Err-Bad.field-0-is at c.in-Err-Bad.ensures in
    let left : 0 < length c.loop-cursor.cursor.rest = omega (arith, c.rest.ensures.value, c.loop-cursor-test.true) in (
      faulty c.args.body.now c.loop-cursor.cursor.rest c.loop-cursor.commands.items i.parts i.spelled left none,
      (
        c.loop-cursor.commands.items,
        c.loop-cursor.cursor.rest,
        i.parts,
        i.spelled,
        omega (arith, parts, at, i.place, length-append (record_of c.loop-cursor.commands.items) c.loop-cursor.cursor.rest),
        no_command c.loop-cursor.cursor.rest none,
        inl left,
      ),
    )

pub returns : goal.returns
returns c =
    let i = c.loop-cursor.invariant in
    whole c.args.body.now c.loop-cursor.cursor.rest c.loop-cursor.commands.items i.parts i.spelled (omega (arith, c.rest.ensures.value, c.loop-cursor-test.false)) i.some
