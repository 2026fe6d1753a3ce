use Rattle.std.proofs.Common.{rules, tests, arith, length}
use Rattle.std.proofs.lemmas.Iterator.Consumers.{YieldsList-at, YieldsList-from_filter, YieldsList-turn, YieldsList-end}
use Rattle.std.proofs.lemmas.Iterator.Splits.{YieldsList-from_slice_split}
use Rattle.script.specs.Words.{words}
use Rattle.script.specs.Line.{numbers}
use Rattle.script.proofs.Parts.{YieldsList-from_parts}
use Rattle.script.proofs.Lists.{at_word, onto_word}
use Rattle.std.proofs.lemmas.List.{length_push, at_drop_all}
use Rattle.script.proofs.line.read_numbers.Goals as goal

pub loop-word-init : goal.loop-word-init
loop-word-init c = record {
  gives =
      YieldsList-from_parts c.args.text.now c.requires
      (YieldsList-at c.into_iter-word-iterator.ensures.into_iter_gives
      (YieldsList-from_filter _ _
      (YieldsList-at c.filter-word-items.ensures.source (YieldsList-from_slice_split _ _ c.args.text.now c.split.ensures.rest c.split.ensures.done c.split.ensures.closure (λ x b q k. search (rules, tests))))
      c.filter-word-items.ensures.closure (λ x b q k. search (rules, tests))));
  so_far = search rules;
}

pub returns-in_err-ok_or-clause-unreadable : goal.returns-in_err-ok_or-clause-unreadable
returns-in_err-ok_or-clause-unreadable c =
    let t = YieldsList-turn c.loop-word.invariant.gives c.loop-word.yielded _ c.loop-word.yielded_by _ _ c.in-Some.word c.in-Some.is c.next.ensures.steps in
    let first = at_word _ _ _ t in
    let so_far = c.loop-word.invariant.so_far in
    search rules

pub loop-word-preserved : goal.loop-word-preserved
loop-word-preserved c =
    let t = YieldsList-turn c.loop-word.invariant.gives c.loop-word.yielded _ c.loop-word.yielded_by _ _ c.in-Some.word c.in-Some.is c.next.ensures.steps in
    let first = at_word _ _ _ t in
    let so_far = c.loop-word.invariant.so_far in
    let more = length_push c.loop-word.yielded c.in-Some.word in
    record { gives = c.loop-word.invariant.gives; so_far = search (rules, onto_word) }

pub returns-clause-ok : goal.returns-clause-ok
returns-clause-ok c =
    let t = YieldsList-end c.loop-word.invariant.gives c.loop-word.yielded _ c.loop-word.yielded_by _ _ c.in-None.is c.next.ensures.steps in
    let none = at_drop_all numbers (words c.args.text.now) (length c.loop-word.yielded) (omega (arith, t.1)) in
    let so_far = c.loop-word.invariant.so_far in
    search rules
