use Rattle.std.proofs.Common.{vec_items, vec_len}
use Rattle.world.proofs.Happens.{is_there, gathered, ticked_then, words_kept}
use Rattle.world.proofs.World.tick.Goals as goal

pub invariant_of-self-2 : goal.invariant_of-self-2
invariant_of-self-2 c =
    let w = c.args.self.now in
    let went =
    ticked_then (vec_len w.stations) w.parcels c.args.at (vec_items w.stations) c.index_mut.result.now c.tick-sent.new.self (vec_items w.mail.envelopes) (vec_items c.collect.new.self.envelopes) (vec_items w.journal)
    c.deref_mut.result.now c.tick-sent.new.lent c.tick-sent.result w.stations.ok.0 w.numbered w.lived (is_there _ _ c.in_ok-check_office.ensures) c.index_mut.ensures.value c.tick-sent.ensures.same_opening (gathered _ _ _ c.deref_mut.result.now _ _ _ _ _ c.in_ok-reserve.ensures.same c.deref.ensures.value c.tick-sent.auto.lent c.deref_mut.ensures.len c.collect.ensures) c.tick-sent.ensures.value in
    record { good = w.good; numbered = went.numbered; room = w.room; lived = went.lived }

pub returns-clause-kept : goal.returns-clause-kept
returns-clause-kept c = words_kept (vec_items c.args.self.now.stations) c.args.at c.index_mut.result.now c.tick-sent.new.self c.index_mut.ensures.value c.tick-sent.ensures.value.1.0
