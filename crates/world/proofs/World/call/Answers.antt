use Rattle.std.proofs.Common.{replicate, inr}
use Rattle.wire.specs.Layout.{call_bytes}
use Rattle.world.specs.View.{limits_of, journal_of}
use Rattle.world.proofs.Asking.{all_there, front, handed_as}
use Rattle.world.proofs.World.call.Goals as goal

pub slice_bounds-bytes-end : goal.slice_bounds-bytes-end
slice_bounds-bytes-end c = all_there (call_bytes c.args.call) (replicate 25 0) c.write_call.new.out c.in-Some.len c.in-Some.ensures.2

pub returns-clause-value : goal.returns-clause-value
returns-clause-value c =
    inr (
      c.in-Some.ensures.0,
      handed_as (limits_of c.args.self.now) (journal_of c.args.self.now) c.args.at c.args.call _ c.bytes.result (journal_of c.bytes.new.self) c.in-Some.ensures.0
          (front (call_bytes c.args.call) (replicate 25 0) c.write_call.new.out c.in-Some.len c.in-Some.ensures.2) c.bytes.ensures.value,
    )
