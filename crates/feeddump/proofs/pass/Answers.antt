use Rattle.std.proofs.Common.{rules, sym, ◌∙◌}
use Rattle.feeddump.proofs.Passing.{passing_first, place_fits, less, on, stops}
use Rattle.feeddump.proofs.pass.Goals as goal

pub loop-rest-init : goal.loop-rest-init
loop-rest-init c = search (rules, passing_first)

pub overflow_add-at : goal.overflow_add-at
overflow_add-at c =
    search (rules, place_fits, c.loop-rest.invariant, c.cut_at.ensures, c.rest-rest.ensures, c.push_all-a.ensures.pushed, c.call_lines-t.ensures)

pub loop-rest-smaller : goal.loop-rest-smaller
loop-rest-smaller c =
    search (rules, less, c.loop-rest.invariant, c.cut_at.ensures, c.rest-rest.ensures, c.push_all-a.ensures.pushed, c.call_lines-t.ensures)

pub loop-rest-preserved : goal.loop-rest-preserved
loop-rest-preserved c =
    search (rules, on, c.loop-rest.invariant, c.cut_at.ensures, c.rest-rest.ensures, c.push_all-a.ensures.pushed, c.call_lines-t.ensures)

pub returns : goal.returns
returns c =
    let none = c.in_default.not-Packet in
    let same = c.cut_at.ensures ∙ sym c.cut_at-2.ensures in
    stops c.args.window.now c.loop-rest.at c.loop-rest.invariant _ c.cut_at-2.ensures c.loop-rest.n c.loop-rest.p _ c.stopped.ensures (λ kind start m next d. none kind start m next (same ∙ d))
