-- Writing a row more: what its five writes come to.
use Rattle.std.proofs.Common.{◌≡◌, ℕ, suc, ◌≤◌, ◌≢◌, true, false, List, sym, ap, ◌∙◌, arith}
use Rattle.parcels.specs.declared.Entry.{Entry}
use Rattle.rows.specs.Layout.{head_at, EntryWritten, LinkWritten, HeadWritten}
use Rattle.rows.proofs.Words.{entry_spares, head_spares, link_spares, spares_on}
use Rattle.rows.specs.declared.Head.{Head}
use Rattle.rows.specs.declared.Link.{Link}
use Rattle.book.specs.Adding.{next_row, counted_head, RowAdded}

-- links of two rows are two
other_row : (k l : Link) → (k.row ≡ l.row → ⊥) → k ≢ l
other_row k l ne x = ne (ap (λ (j : Link). j.row) x)

pub row_added : (own : ℕ) (m0 m1 m2 m3 m4 m5 : List ℕ) (end : Link) (e : Entry) (h0 h : Head) → HeadWritten m4 m5 h → LinkWritten m3 m4 end h.count →
    LinkWritten m2 m3 (record { row = h.count; right = true }) 0 → LinkWritten m1 m2 (record { row = h.count; right = false }) 0 → EntryWritten m0 m1 h.count e →
    h ≡ counted_head own h0 e.key → h0 ≡ head_at m0 → end.row ≤ (head_at m0).count → RowAdded own m0 m5 end e
row_added own m0 m1 m2 m3 m4 m5 end e h0 h w5 w4 w3 w2 w1 counts was within =
    let is : h.count ≡ next_row m0 = ap (λ (x : Head). x.count) counts ∙ ap (λ (x : Head). suc x.count) was in
    record {
      entry = rw (← is) (w5.entries h.count (omega arith) ∙ w4.entries h.count ∙ w3.entries h.count ∙ w2.entries h.count ∙ w1.entry);
      below = λ l at.
          w5.links l ∙ w4.others l (λ x. let y : l.row ≡ end.row = ap (λ (j : Link). j.row) x in omega arith)
          ∙ (let here : l.row ≡ h.count = at ∙ sym is in grind (arith, w3.link, w3.others l, w2.link));
      leads = w5.links end ∙ w4.link ∙ is;
      head = w5.head ∙ counts ∙ ap (λ x. counted_head own x e.key) was;
      entries = λ r one ne. w5.entries r one ∙ w4.entries r ∙ w3.entries r ∙ w2.entries r ∙ w1.others r (λ x. ne (x ∙ is));
      links = λ l ne free.
          w5.links l ∙ w4.others l free ∙ w3.others l (other_row l (record { row = h.count; right = true }) (λ x. ne (x ∙ is)))
          ∙ w2.others l (other_row l (record { row = h.count; right = false }) (λ x. ne (x ∙ is))) ∙ w1.links l;
      spare = spares_on m0 m1 m5 (entry_spares m0 m1 h.count e (omega arith) w1)
          (spares_on m1 m2 m5 (link_spares m1 m2 (record { row = h.count; right = false }) 0 w2)
          (spares_on m2 m3 m5 (link_spares m2 m3 (record { row = h.count; right = true }) 0 w3)
          (spares_on m3 m4 m5 (link_spares m3 m4 end h.count w4) (head_spares m4 m5 h w5))));
      rest = λ i low.
          w5.rest i (λ a b. omega arith) ∙ w4.rest i (λ a b. omega arith) ∙ w3.rest i (λ a b. omega arith) ∙ w2.rest i (λ a b. omega arith)
          ∙ w1.rest i (λ a b. omega arith);
    }
