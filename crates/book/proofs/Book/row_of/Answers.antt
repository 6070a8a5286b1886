use Rattle.std.proofs.Common.{ap, ◌∙◌}
use Rattle.std.specs.Option.{ok_or}
use Rattle.book.proofs.Kept.{row_of, row_led_to}
use Rattle.book.proofs.Book.row_of.Goals as goal

pub returns : goal.returns
returns c =
    row_of c.args.self.now.opening.own c.args.self.now.opening.parcels c.args.self.now.memory.now c.args.key c.args.self.now.sound c.ranges.key.fits c.ok_or.result
    (c.ok_or.ensures.value ∙ ap (λ x. ok_or x c.seek-end.result) c.read_link.ensures ∙ row_led_to c.args.self.now.memory.now c.seek-end.result ∙ c.seek-end.ensures.value)
