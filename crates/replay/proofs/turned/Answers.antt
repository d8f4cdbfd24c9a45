-- The bytes fetched, told, and those behind what was told; what the telling returns lies within them and the buffers.
use Rattle.std.proofs.Common.{refl, sym, arith, ◌≤◌, length, length-take-le}
use Rattle.feed.specs.HeldBytes.{held_in, held-left}
use Rattle.replay.specs.Turns.{telling-waits, told-returns}
use Rattle.replay.proofs.turned.Goals as goal

pub slice_bounds-print-end : goal.slice_bounds-print-end
slice_bounds-print-end g c =
    let h = c.next_held-held in
    let within : h.result.to ≤ length h.new.input = omega arith in
    let r = told-returns c.args.run.session _ _ _ _ _ h.result.ended c.requires.0.sound (h.ensures.0.0, within) c.told-r.ensures in
    omega (arith, r.text-within, c.told-r.auto.out)

pub slice_bounds-print-end-2 : goal.slice_bounds-print-end-2
slice_bounds-print-end-2 g c =
    let h = c.next_held-held in
    let within : h.result.to ≤ length h.new.input = omega arith in
    let r = told-returns c.args.run.session _ _ _ _ _ h.result.ended c.requires.0.sound (h.ensures.0.0, within) c.told-r.ensures in
    sym (length-take-le c.told-r.result.at c.told-r.new.out (omega (arith, r.text-within, c.told-r.auto.out)))

pub overflow_add-result : goal.overflow_add-result
overflow_add-result g c =
    let h = c.next_held-held in
    let within : h.result.to ≤ length h.new.input = omega arith in
    let r = told-returns c.args.run.session _ _ _ _ _ h.result.ended c.requires.0.sound (h.ensures.0.0, within) c.told-r.ensures in
    omega (arith, r.place-within, h.ensures.0.1, c.requires.2)

pub returns : goal.returns
returns g c =
    let h = c.next_held-held in
    let within : h.result.to ≤ length h.new.input = omega arith in
    let r = told-returns c.args.run.session _ _ _ _ _ h.result.ended c.requires.0.sound (h.ensures.0.0, within) c.told-r.ensures in (
      record {
        held-within = (r.place-within, h.ensures.0.1);
        sound = r.sound;
        room-to-read = λ w. omega (arith, r.short (telling-waits _ c.told-r.result.stop c.print-stop.ensures w), c.requires.1);
      },
      omega (arith, r.counted, h.auto.input),
      record {
        bytes = held_in h.result h.new.input;
        fetched = h.ensures.1;
        telling = c.told-r.result;
        tells = c.told-r.ensures;
        session = refl;
        answered = refl;
        same-room = c.told-r.auto.out;
        left = held-left h.new.input h.result.from h.result.to c.told-r.result.place r.place-within within;
        stop = c.print-stop.ensures;
      },
    )
