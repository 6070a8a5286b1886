use Rattle.std.proofs.Common.{◌≡◌, ◌∙◌, take, length}
use Rattle.promises.specs.Beside.{steps_told}
use Rattle.world.specs.Journal.{history}
use Rattle.tracking.proofs.Steps.{none_told, next_number, kept, put}
use Rattle.tracking.proofs.steps_by.Goals.{in-Some+in_ok-insert, in_default}
use Rattle.tracking.proofs.steps_by.Goals as goal

pub loop-said-init : goal.loop-said-init
loop-said-init c = none_told c.new-steps.result c.new-steps.ensures.empty

pub loop-said-preserved : goal.loop-said-preserved
loop-said-preserved c =
    elim c.match-told_by.branch [
      | in-Some+in_ok-insert w ↦
          let number : w.next_number-number.result ≡ length (steps_told (history (take c.loop-said.said-index c.args.journal.now)) w.in-Some.field-0.key) = next_number _ _ w.next_number-number.result (w.copied.ensures ∙ w.get.ensures.value ∙ c.loop-said.invariant.last w.in-Some.field-0.key) w.next_number-number.ensures in
          rw w.steps-is (put _ _ _ _ w.in-Some.field-0 _ w.insert.new.self w.next_number-number.result c.loop-said-test.true c.told_by.ensures w.in-Some.is number w.in_ok-insert.ensures.updates c.loop-said.invariant)
      | in_default w ↦ rw w.steps-is (kept _ _ _ _ _ c.loop-said-test.true c.told_by.ensures w.in_default.is c.loop-said.invariant)
    ]
