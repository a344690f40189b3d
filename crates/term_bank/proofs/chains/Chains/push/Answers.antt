use Rattle.std.proofs.Common.{◌≡◌, ◌+◌, ◌<◌, ◌++◌, ◌∷◌, [], length, Some, refl, sym, ap, ◌∙◌, arith}
use Rattle.std.specs.Prelude.{slice_get}
use Rattle.std.proofs.lemmas.List.{length-map, length_push}
use Rattle.std.proofs.lemmas.Option.{slice_get_read}
use Rattle.term_bank.specs.Chains.{slot_of}
use Rattle.term_bank.specs.declared.chains.Link.{Link}
use Rattle.term_bank.proofs.Linking.{chained_push}
use Rattle.term_bank.proofs.chains.Chains.push.Goals as goal

pub invariant_of-self-2 : goal.invariant_of-self-2
invariant_of-self-2 c =
    let heads = c.make_room.new.heads.items in
    let links = c.make_room.new.links.items in
    let hash = c.args.hash in
    let x : Link = record { hash = c.args.hash; next = c.index-next.result.now } in
    let old = c.self.inside.links.items in
    let counts : length links ≡ length old = sym (length-map links (λ (l : Link). l.hash)) ∙ ap length c.make_room.ensures.hashes ∙ length-map old (λ (l : Link). l.hash) in
    let seen : length old ≡ length c.args.self.now = sym (length-map old (λ (l : Link). l.hash)) ∙ ap length c.self.view_is in
    let counted : c.len.result ≡ length heads = omega (arith, c.len.ensures) in
    let slot : c.slot_of-slot.result ≡ slot_of (length heads) c.args.hash = c.slot_of-slot.ensures.slot ∙ ap (λ n. slot_of n c.args.hash) counted in
    let inside : c.slot_of-slot.result < length heads = omega (arith, c.slot_of-slot.ensures.within, c.len.ensures) in
    let first : slice_get heads (slot_of (length heads) c.args.hash) ≡ Some x.next = ap (slice_get heads) (sym slot) ∙ slice_get_read heads (length heads) c.slot_of-slot.result x.next refl inside c.index-next.ensures in
    let room : length links < length heads = c.in_ok-make_room.ensures.room in
    let few : length links < 4194304 = omega (arith, c.requires) in
    let pushed : c.push.new.self.items ≡ links ++ x ∷ [] = c.in_ok-push.ensures.items in
    let end : c.len-2.result ≡ length links + 1 = omega (arith, c.len-2.ensures, ap length pushed, length_push links x) in
    rw (slot, end, pushed) (chained_push heads links x c.make_room.ensures.chained room few first)
