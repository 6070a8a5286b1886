use Rattle.std.proofs.Common.{rules, refl, sym, append-nil}
use Rattle.player.specs.Run.{none, unread, stopped, unshown}
use Rattle.player.specs.declared.trouble.Stop.TheVariants.{Bad}
use Rattle.player.specs.declared.trouble.Trouble.TheVariants.{Unread, Impossible}
use Rattle.world.specs.declared.CannotHappen.TheVariants.{NoMemory}
use Rattle.player.proofs.Run.{one_more, ends}
use Rattle.player.proofs.report.Playing.run.Goals as goal
use Rattle.player.proofs.report.Playing.run.Goals.{in-Some-2+in_ok-show, in_default-2}

pub loop-line-init : goal.loop-line-init
loop-line-init c = record { goes = none; limits = refl; budget = refl }

pub returns-in_err-read_line-clause-value : goal.returns-in_err-read_line-clause-value
returns-in_err-read_line-clause-value c =
    ends c.in-Some.line.now (Bad (Unread c.in_err-read_line.field-0.0)) _ c.loop-line.invariant.limits c.loop-line.invariant.goes (search rules) (unread (search rules) refl refl) refl (search rules)

pub returns-in_err-answer-clause-value : goal.returns-in_err-answer-clause-value
returns-in_err-answer-clause-value c =
    ends c.in-Some.line.now c.in_err-answer.field-0.0 _ c.loop-line.invariant.limits c.loop-line.invariant.goes (search rules) (stopped c.in_ok-read_line.field-0 (search rules) (search rules)) refl (search rules)

pub returns-in_err-show-clause-value : goal.returns-in_err-show-clause-value
returns-in_err-show-clause-value c =
    ends c.in-Some.line.now (Bad (Impossible NoMemory)) _ c.loop-line.invariant.limits c.loop-line.invariant.goes (search rules) (unshown c.in_ok-read_line.field-0 c.in-Some-2.answer (search rules) (search rules)) (search rules) (search rules)

pub loop-line-preserved : goal.loop-line-preserved
loop-line-preserved c =
    elim c.match-branch-3.branch [
      | in-Some-2+in_ok-show w ↦
          rw w.self-is
          (record {
            goes = one_more c.loop-line.invariant.limits c.loop-line.invariant.goes (record { line = c.in-Some.line.now; said = c.in_ok-read_line.field-0; answer = c.in_ok-answer.field-0; takes = search rules; reads = search rules; plays = search rules; shows = rw w.in-Some-2.is (search rules) });
            limits = search rules;
            budget = search rules;
          })
      | in_default-2 w ↦
          rw w.self-is
          (record {
            goes = one_more c.loop-line.invariant.limits c.loop-line.invariant.goes (record { line = c.in-Some.line.now; said = c.in_ok-read_line.field-0; answer = c.in_ok-answer.field-0; takes = search rules; reads = search rules; plays = search rules; shows = rw w.in_default-2.is (sym (append-nil _)) });
            limits = search rules;
            budget = search rules;
          })
    ]
