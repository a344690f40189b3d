use Rattle.std.proofs.Common.{◌≡◌, ◌∙◌, ◌++◌, ◌∷◌, [], ◌+◌, List, take, take, get_or, ap, arith, sym, subst}
use Rattle.std.specs.Prelude.{All}
use Rattle.std.proofs.lemmas.List.{append_assoc, append-nil, take_all, take_more}
use Rattle.std.proofs.lemmas.List.Elements.{All-append}
use Rattle.kb_lemmas.proofs.Membership.{all_one}
use Rattle.kb_term.specs.declared.origin.Found.TheVariants.{No}
use Rattle.kb_node.specs.declared.job.Fact.{Fact}
use Rattle.mkb_rules.specs.Tabled.{HasRoom, IsTabled}
use Rattle.mkb_rules.proofs.Tabled.{all_kept}
use Rattle.mkb_rules.proofs.facts.Facts.extend.Goals as goal

abbrev no_fact : Fact
no_fact = record { node = record { 0 = 0 }; side = 0; rule = record { node = 0; dir = 0 }; found = No }

pub loop-i-preserved : goal.loop-i-preserved
loop-i-preserved c =
    let facts = c.args.facts.now in
    let i = c.loop-i.i in
    let room = HasRoom c.make_room.new.ranks c.make_room.new.rows.items in
    record {
      list = c.loop-i.invariant.list;
      tabled = c.in_ok-make_room.ensures.kept c.args.self.now c.loop-i.invariant.tabled;
      room = subst {A = List Fact} (All room) (sym (take_more facts i no_fact c.loop-i-test.true))
          (All-append room (take i facts) (get_or facts i no_fact ∷ [])
          (all_kept c.in_ok-make_room.ensures.rooms (take i facts) c.loop-i.invariant.room)
          (all_one room (get_or facts i no_fact) c.in_ok-make_room.ensures.room));
    }

pub loop-i-2-init : goal.loop-i-2-init
loop-i-2-init c =
    let before = c.args.self.now in
    let facts = c.args.facts.now in
    let ranks = c.loop-i.self-inside.ranks in
    let rows = c.loop-i.self-inside.rows.items in
    let all : take c.loop-i.i facts ≡ facts = take_all c.loop-i.i facts (omega (arith, c.loop-i-test.false)) in
    let none : before ++ [] ≡ before = simp append-nil in
    record {
      list = c.in_ok-extend_from_slice.ensures.items ∙ ap (λ fs. fs ++ facts) c.loop-i.invariant.list;
      tabled = subst {A = List Fact} (IsTabled ranks rows) (sym none) c.loop-i.invariant.tabled;
      room = subst {A = List Fact} (All (HasRoom ranks rows)) all c.loop-i.invariant.room;
    }

pub loop-i-2-preserved : goal.loop-i-2-preserved
loop-i-2-preserved c =
    let before = c.args.self.now in
    let facts = c.args.facts.now in
    let i = c.loop-i-2.i in
    let more : (before ++ take i facts) ++ get_or facts i no_fact ∷ [] ≡ before ++ take (i + 1) facts =
    append_assoc before (take i facts) (get_or facts i no_fact ∷ []) ∙ ap (λ (fs : List Fact). before ++ fs) (sym (take_more facts i no_fact c.loop-i-2-test.true)) in
    record {
      list = c.loop-i-2.invariant.list;
      tabled = subst {A = List Fact} (IsTabled c.loop-i-2.self-inside.ranks c.note.new.rows.items) more (c.note.ensures.tabled (before ++ take i facts) c.loop-i-2.invariant.tabled);
      room = all_kept c.note.ensures.rooms facts c.loop-i-2.invariant.room;
    }
