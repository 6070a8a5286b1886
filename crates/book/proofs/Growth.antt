-- A row more: linked where the search for its key ended, it leaves a sound tree sound.
use Rattle.std.proofs.Common.{◌≡◌, ℕ, suc, ◌+◌, ◌*◌, ◌/◌, ◌^◌, ◌<◌, ◌≤◌, ◌≢◌, ◌⊎◌, sym, ap, ◌∙◌, subst, inl, inr, arith}
use Rattle.std.proofs.lemmas.Bool.{cases_lt}
use Rattle.parcels.specs.Book.{pick}
use Rattle.rows.specs.declared.Link.{Link}
use Rattle.book.specs.Tree.{Tree, root, key_bits, bit_at, prefix, link_below, Spot, at, free, spot_row, spot_height, seek, height, Hangs, Linked, Found, SoundTree, spot_of}
use Rattle.book.proofs.Search.{seek_here, seek_on, Way, stops, ends, goes, hangs_row, leads, whole_way, way_free}

-- the tree before and after: the row behind the last one got the key, an empty link leads to it, and it has no links
pub record Grown (t t' : Tree) (n key : ℕ) (end : Link) : Type 0 where
  pub keys : (r : ℕ) → 1 ≤ r → r ≤ n → t'.key r ≡ t.key r
  pub links : (l : Link) → l.row ≤ n → l ≢ end → t'.link l ≡ t.link l
  pub was : t.link end ≡ 0
  pub leads : t'.link end ≡ suc n
  pub has : t'.key (suc n) ≡ key
  pub below : (l : Link) → l.row ≡ suc n → t'.link l ≡ 0

cases_link : (k l : Link) → (k ≡ l) ⊎ (k ≡ l → ⊥)
cases_link k l = grind arith

-- a link hangs in one way
hangs_once : (t : Tree) (n : ℕ) (l : Link) (h p h' p' : ℕ) → Hangs t n h p l → Hangs t n h' p' l → (h ≡ h') × (p ≡ p')
hangs_once t n l h p h' p' x y = grind arith

-- a search that found a row ends at it
spot_at : (s : Spot) (r : ℕ) → 1 ≤ r → spot_row s ≡ r → s ≡ at r (spot_height s)
spot_at s r one e = grind arith

pub found_at : (t : Tree) (n : ℕ) → SoundTree t n → (r : ℕ) → 1 ≤ r → r ≤ n → spot_of t (t.key r) ≡ at r (height t r)
unfolding height
found_at t n sound r one low = spot_at (spot_of t (t.key r)) r one (sound.found (record { row = r; from = one; to = low })).1

module _ (t t' : Tree) (n key : ℕ) (end : Link) (left : ℕ) (sound : SoundTree t n) (grown : Grown t t' n key end) (small : key < 2 ^ key_bits)
    (freed : spot_of t key ≡ free end left) where
  -- a link that led to a row leads there still
  same_link : (l : Link) → l.row ≤ n → t.link l ≢ 0 → t'.link l ≡ t.link l
  same_link l row some = grown.links l row (λ e. some (ap t.link e ∙ grown.was))

  goes_on : (k h : ℕ) (l : Link) → l.row ≤ n → t.link l ≢ 0 → t.link l ≤ n → t.key (t.link l) ≢ k → seek t' (suc h) l k ≡ seek t' h (link_below (t.link l) h k) k
  goes_on k h l row some low other =
      let e : t'.link l ≡ t.link l = same_link l row some in
      let f : t'.key (t.link l) ≡ t.key (t.link l) = grown.keys (t.link l) (omega arith) low in
      seek_on t' h l k (λ z. some (sym e ∙ z)) (λ z. other (sym f ∙ ap t'.key (sym e) ∙ z)) ∙ ap (λ r. seek t' h (link_below r h k) k) e

  -- a search that succeeded ends as before
  kept : {k h : ℕ} {l : Link} {s : Spot} (row bits : ℕ) → Way t n k h l s → s ≡ at row bits → seek t' h l k ≡ s
  kept row bits (stops _ _) e = absurd (cc)
  kept {k} row bits (ends {h} {l} here some low is) e =
      let f : t'.link l ≡ t.link l = same_link l here some in
      let g : t'.key (t.link l) ≡ t.key (t.link l) = grown.keys (t.link l) (omega arith) low in
      seek_here t' h l k (λ z. some (sym f ∙ z)) (ap t'.key f ∙ g ∙ is) ∙ ap (λ r. at r h) f
  kept {k} row bits (goes {h} {l} here some low other w) e = goes_on k h l here some low other ∙ kept row bits w e

  -- the search for the new key ends at the new row
  comes : {h : ℕ} {l : Link} {s : Spot} → Way t n key h l s → s ≡ free end left → seek t' h l key ≡ at (suc n) left
  comes (stops {h} {l} _ _) e =
      let link : l ≡ end = cc in
      let bits : h ≡ left = cc in
      let f : t'.link l ≡ suc n = ap t'.link link ∙ grown.leads in
      seek_here t' h l key (λ z. omega arith) (ap t'.key f ∙ grown.has) ∙ cc
  comes (ends _ _ _ _) e = absurd (cc)
  comes (goes {h} {l} here some low other w) e = goes_on key h l here some low other ∙ comes w e

  found_kept : (r : ℕ) → 1 ≤ r → r ≤ n → spot_of t' (t'.key r) ≡ at r (height t r)
  found_kept r one low =
      let was : spot_of t (t.key r) ≡ at r (height t r) = found_at t n sound r one low in
      ap (λ k. spot_of t' k) (grown.keys r one low)
      ∙ kept r (height t r) (whole_way t n sound (t.key r) (sound.found (record { row = r; from = one; to = low })).0) was
      ∙ was

  found_new : spot_of t' (t'.key (suc n)) ≡ at (suc n) left
  found_new = ap (λ k. spot_of t' k) grown.has ∙ comes (whole_way t n sound key small) freed

  height_kept : (r : ℕ) → 1 ≤ r → r ≤ n → height t' r ≡ height t r
  unfolding height
  height_kept r one low = ap spot_height (found_kept r one low)

  height_new : height t' (suc n) ≡ left
  unfolding height
  height_new = ap spot_height found_new

  hangs_back : (h low : ℕ) (l : Link) → l.row ≤ n → Hangs t' (suc n) h low l → Hangs t n h low l
  hangs_back h low l within (inl root) = inl root
  hangs_back h low l within (inr (one, _, high, is)) =
      inr (one, within, sym (height_kept l.row one within) ∙ high, is ∙ ap (λ k. pick l.right 1 0 * 2 ^ bit_at h + prefix (suc h) k) (grown.keys l.row one within))

  Leads : (h low : ℕ) (l : Link) → Type 0
  Leads h low l = (t'.link l ≤ suc n) × (height t' (t'.link l) ≡ h) × (prefix h (t'.key (t'.link l)) ≡ low)

  leads_new : (h low : ℕ) (l : Link) → l ≡ end → Hangs t n h low l → Leads h low l
  unfolding Leads
  leads_new h low l e hangs =
      let f : t'.link l ≡ suc n = ap t'.link e ∙ grown.leads in
      let there = way_free end left (whole_way t n sound key small) freed in
      let (bits, begins) = hangs_once t n end h low left (prefix left key) (subst (λ (x : Link). Hangs t n h low x) e hangs) there.0 in
      (omega arith, ap (height t') f ∙ height_new ∙ sym bits, ap (λ r. prefix h (t'.key r)) f ∙ ap (λ k. prefix h k) grown.has ∙ ap (λ b. prefix b key) bits ∙ sym begins)

  leads_old : (h low : ℕ) (l : Link) → l.row ≤ n → l ≢ end → Hangs t n h low l → t'.link l ≢ 0 → Leads h low l
  unfolding Leads
  leads_old h low l row other hangs some =
      let f : t'.link l ≡ t.link l = grown.links l row other in
      let old : t.link l ≢ 0 = λ z. some (f ∙ z) in
      let (within, high, begins) = leads t n sound h low l hangs old in
      let one : 1 ≤ t.link l = omega arith in (
        omega arith,
        ap (height t') f ∙ height_kept (t.link l) one within ∙ high,
        ap (λ r. prefix h (t'.key r)) f ∙ ap (λ k. prefix h k) (grown.keys (t.link l) one within) ∙ begins,
      )

  linked : Linked t' (suc n)
  unfolding Leads
  linked x =
      elim (cases_lt x.link.row (suc n)) [
        | inl low ↦
            let row : x.link.row ≤ n = omega arith in
            let hangs : Hangs t n x.bits x.low x.link = hangs_back x.bits x.low x.link row x.hangs in
            elim (cases_link x.link end) [
              | inl e ↦ leads_new x.bits x.low x.link e hangs
              | inr e ↦ leads_old x.bits x.low x.link row e hangs x.leads
            ]
        | inr high ↦
            let up : x.link.row ≤ suc n = hangs_row t' (suc n) x.bits x.low x.link x.hangs in
            absurd (x.leads (grown.below x.link (omega arith)))
      ]

  found : Found t' (suc n)
  found x =
      elim (cases_lt x.row (suc n)) [
        | inl low ↦
            let r : x.row ≤ n = omega arith in
            let known = sound.found (record { row = x.row; from = x.from; to = r }) in
            (rw (grown.keys x.row x.from r) known.0, ap spot_row (found_kept x.row x.from r))
        | inr high ↦
            let last : x.row ≡ suc n = omega arith in
            (rw (last, grown.has) small, rw (last, found_new))
      ]

  pub grown_sound : SoundTree t' (suc n)
  grown_sound = record { linked = linked; found = found }
