use Rattle.std.proofs.Common.{◌≡◌, ◌∙◌, ◌<◌, arith, length, sym}
use Rattle.kb_term.specs.Pair.{place_in}
use Rattle.kb_term.proofs.NameList.{has-place, has-no_place, names-new, names-old, names-full}
use Rattle.kb_term.proofs.names.Names.see_name.Goals as goal
use Rattle.kb_term.proofs.names.Names.see_name.Goals.{else-count-lt65-via-then-count-lt65+else-place-count, else-count-lt65-via-else-count-lt65}

pub returns-then-place-count : goal.returns-then-place-count
returns-then-place-count c vs e =
    let names = c.args.self.now in
    let absent : place_in names c.args.n ≡ length names = sym c.place.ensures.place ∙ c.if-place-count.true ∙ c.len-count.ensures.count in
    c.push.ensures ∙ names-new 65 vs names c.args.n e (omega arith) (has-no_place names c.args.n absent)

pub returns-else-count-lt65 : goal.returns-else-count-lt65
returns-else-count-lt65 c vs e =
    elim c.else-count-lt65.branch [
      | else-count-lt65-via-then-count-lt65+else-place-count w ↦
          let names = c.args.self.now in
          let present : place_in names c.args.n < length names = omega (arith, w.place.ensures.place, w.place.ensures.bound, w.if-place-count.false, c.len-count.ensures.count) in
          names-old 65 vs names c.args.n e (omega (arith, w.if-count-lt65.true, c.len-count.ensures.count)) (has-place names c.args.n present)
      | else-count-lt65-via-else-count-lt65 w ↦
          names-full 65 vs c.args.self.now c.args.n e (omega (arith, w.if-count-lt65.false, c.len-count.ensures.count))
    ]
