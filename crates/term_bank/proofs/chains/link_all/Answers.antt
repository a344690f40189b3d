use Rattle.std.proofs.Common.{ℕ, ◌≡◌, ◌+◌, ◌<◌, length, Some, refl, sym, ap, subst, ◌∙◌, arith, length-set}
use Rattle.std.specs.Prelude.{slice_get}
use Rattle.std.proofs.lemmas.List.{length-map}
use Rattle.std.proofs.lemmas.Option.{slice_get_read, slice_get_within}
use Rattle.std.proofs.Math.Seq.{map-set_same}
use Rattle.kb_lemmas.proofs.Lists.{get_map}
use Rattle.term_bank.specs.Chains.{slot_of, hashes_of, IsLink}
use Rattle.term_bank.specs.declared.chains.Link.{Link}
use Rattle.term_bank.proofs.Linking.{linked_more}
use Rattle.term_bank.proofs.chains.link_all.Goals as goal

pub loop-place-init : goal.loop-place-init
loop-place-init c = record {
  hashes = refl;
  slots = refl;
  below = record {
    starts = λ slot link g. let zero_is : link ≡ 0 = c.requires.empty slot link g in record {
      low = omega arith;
      here = λ i x e h. absurd (omega arith);
      none = λ j x a b h. absurd (omega arith);
    };
    nexts = λ i x h g. absurd (omega arith);
  };
}

pub loop-place-preserved : goal.loop-place-preserved
loop-place-preserved c =
    let links = c.loop-place.links.items in
    let heads = c.loop-place.heads.items in
    let place = c.loop-place.place in
    let old : Link = c.index.result.now in
    let head : ℕ = c.index-in-loop-place.result.now in
    let x : Link = record { hash = c.index.result.now.hash; next = c.index-in-loop-place.result.now } in
    let counts : length links ≡ length c.args.links.now.items = sym (length-map links (λ (l : Link). l.hash)) ∙ ap length c.loop-place.invariant.hashes ∙ length-map c.args.links.now.items (λ (l : Link). l.hash) in
    let within : place < length links = omega (arith, c.loop-place-test.true, c.len-place-end.ensures) in
    let at : slice_get links place ≡ Some old = slice_get_read links (length links) place old refl within c.index.ensures in
    let hash_at : slice_get (hashes_of c.args.links.now.items) place ≡ Some old.hash =
    ap (λ hs. slice_get hs place) (sym c.loop-place.invariant.hashes) ∙ get_map (λ (l : Link). l.hash) links place old at in
    let counted : c.len.result ≡ length heads = omega (arith, c.len.ensures) in
    let slot : c.slot_of-slot.result ≡ slot_of (length heads) old.hash = c.slot_of-slot.ensures.slot ∙ ap (λ n. slot_of n old.hash) counted in
    let inside : c.slot_of-slot.result < length heads = omega (arith, c.slot_of-slot.ensures.within, c.len.ensures) in
    let head_at : slice_get heads (slot_of (length heads) old.hash) ≡ Some head =
    ap (slice_get heads) (sym slot) ∙ slice_get_read heads (length heads) c.slot_of-slot.result head refl inside c.index-in-loop-place.ensures in
    record {
      hashes = map-set_same (λ (l : Link). l.hash) links place x old (ap (λ (l : Link). l.hash) c.index.ensures) ∙ c.loop-place.invariant.hashes;
      slots = length-set heads c.slot_of-slot.result (place + 1) ∙ c.loop-place.invariant.slots;
      below = rw slot (linked_more heads (hashes_of c.args.links.now.items) links place x c.loop-place.invariant.below hash_at within head_at);
    }

pub returns-clause-heads : goal.returns-clause-heads
returns-clause-heads c =
    let links = c.loop-place.links.items in
    let counts : length links ≡ length c.args.links.now.items = sym (length-map links (λ (l : Link). l.hash)) ∙ ap length c.loop-place.invariant.hashes ∙ length-map c.args.links.now.items (λ (l : Link). l.hash) in
    let end : c.loop-place.place ≡ length links = omega (arith, c.loop-place-test.false, c.len-place-end.ensures, c.loop-place.auto.place-end) in
    λ slot link g. subst (λ n. IsLink (length c.loop-place.heads.items) (hashes_of links) slot n link) end
    (subst (λ hs. IsLink (length c.loop-place.heads.items) hs slot c.loop-place.place link) (sym c.loop-place.invariant.hashes) (c.loop-place.invariant.below.starts slot link g))

pub returns-clause-links : goal.returns-clause-links
returns-clause-links c i l g =
    let links = c.loop-place.links.items in
    let counts : length links ≡ length c.args.links.now.items = sym (length-map links (λ (l : Link). l.hash)) ∙ ap length c.loop-place.invariant.hashes ∙ length-map c.args.links.now.items (λ (l : Link). l.hash) in
    subst (λ hs. IsLink (length c.loop-place.heads.items) hs (slot_of (length c.loop-place.heads.items) l.hash) i l.next) (sym c.loop-place.invariant.hashes)
    (c.loop-place.invariant.below.nexts i l (omega (arith, slice_get_within links i l g, c.loop-place-test.false, c.len-place-end.ensures)) g)
