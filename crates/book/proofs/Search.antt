-- How a search goes through a sound tree.
use Rattle.std.proofs.Common.{◌≡◌, ℕ, zero, suc, ◌+◌, ◌-◌, ◌*◌, ◌/◌, ◌%◌, ◌^◌, ◌<◌, ◌≤◌, eqb, ◌≢◌, sym, refl, ap, ◌∙◌, subst, inl, inr, add-one, arith, eq-eqb, ne_eqb, Ok, Err}
use Rattle.std.proofs.lemmas.Nat.{mod-pow-add}
use Rattle.std.proofs.lemmas.Bool.{cases_eq}
use Rattle.std.proofs.lemmas.Bool.Decides.{nat_tests}
use Rattle.parcels.specs.Book.{pick}
use Rattle.rows.specs.declared.Link.{Link}
use Rattle.book.specs.Search.{led_to}
use Rattle.book.specs.Tree.{Tree, root, key_bits, turns_right, bit_at, prefix, link_below, Spot, at, free, seek, height, Hangs, SoundTree, spot_of}

bit_of : (x : ℕ) → pick (eqb (x % 2) 1) 1 0 ≡ x % 2
bit_of x = grind (arith, nat_tests)

-- one bit more of a key
pub one_bit : (key h : ℕ) → suc h ≤ key_bits → prefix h key ≡ pick (turns_right (bit_at h) key) 1 0 * 2 ^ bit_at h + prefix (suc h) key
one_bit key h high =
    let more : key_bits - h ≡ 1 + bit_at h = omega arith in
    rw (more, bit_of (key / 2 ^ bit_at h)) (mod-pow-add key 1 (bit_at h))

-- what a link leads to
pub led_free : (t : Tree) (l : Link) → t.link l ≡ 0 → led_to t l ≡ Err l
led_free t l e = rw (eq-eqb (t.link l) 0 e)

pub led_on : (t : Tree) (l : Link) → t.link l ≢ 0 → led_to t l ≡ Ok (t.link l)
led_on t l e = rw (ne_eqb (t.link l) 0 e)

-- one step of a search, by what stands at its link
pub seek_free : (t : Tree) (h : ℕ) (l : Link) (key : ℕ) → t.link l ≡ 0 → seek t h l key ≡ free l h
unfolding seek
seek_free t zero l key e = rw e
seek_free t (suc h) l key e = rw e

pub seek_last : (t : Tree) (l : Link) (key : ℕ) → t.link l ≢ 0 → seek t 0 l key ≡ at (t.link l) 0
unfolding seek
seek_last t l key e = rw (ne_eqb (t.link l) 0 e)

pub seek_here : (t : Tree) (h : ℕ) (l : Link) (key : ℕ) → t.link l ≢ 0 → t.key (t.link l) ≡ key → seek t h l key ≡ at (t.link l) h
unfolding seek
seek_here t zero l key e k = rw (ne_eqb (t.link l) 0 e)
seek_here t (suc h) l key e k = rw (ne_eqb (t.link l) 0 e, eq-eqb (t.key (t.link l)) key k)

pub seek_on : (t : Tree) (h : ℕ) (l : Link) (key : ℕ) → t.link l ≢ 0 → t.key (t.link l) ≢ key →
    seek t (suc h) l key ≡ seek t h (link_below (t.link l) h key) key
unfolding seek
seek_on t h l key e k = rw (ne_eqb (t.link l) 0 e, ne_eqb (t.key (t.link l)) key k)

-- the way of a search through a tree of n rows, with what a sound tree says of each turn
pub data Way (t : Tree) (n key : ℕ) : ℕ → Link → Spot → Type 0 where
  stops : {h : ℕ} {l : Link} → Hangs t n h (prefix h key) l → t.link l ≡ 0 → Way t n key h l (free l h)
  ends : {h : ℕ} {l : Link} → l.row ≤ n → t.link l ≢ 0 → t.link l ≤ n → t.key (t.link l) ≡ key → Way t n key h l (at (t.link l) h)
  goes : {h : ℕ} {l : Link} {s : Spot} → l.row ≤ n → t.link l ≢ 0 → t.link l ≤ n → t.key (t.link l) ≢ key →
      Way t n key h (link_below (t.link l) h key) s → Way t n key (suc h) l s

-- a link hangs in the root or in one of the rows
pub hangs_row : (t : Tree) (n h low : ℕ) (l : Link) → Hangs t n h low l → l.row ≤ n
hangs_row t n h low l hangs = grind arith

module _ (t : Tree) (n : ℕ) (sound : SoundTree t n) where
  -- what a link leads to
  pub leads : (h low : ℕ) (l : Link) → Hangs t n h low l → t.link l ≢ 0 → (t.link l ≤ n) × (height t (t.link l) ≡ h) × (prefix h (t.key (t.link l)) ≡ low)
  leads h low l hangs some = sound.linked (record { bits = h; low = low; link = l; hangs = hangs; leads = some })

  -- the link below it hangs there
  pub hangs_below : (h key : ℕ) (l : Link) → suc h ≤ key_bits → Hangs t n (suc h) (prefix (suc h) key) l → t.link l ≢ 0 → Hangs t n h (prefix h key) (link_below (t.link l) h key)
  hangs_below h key l high hangs some =
      let (within, left, begins) = leads (suc h) (prefix (suc h) key) l hangs some in
      inr (omega arith, within, left, one_bit key h high ∙ ap (λ p. pick (turns_right (bit_at h) key) 1 0 * 2 ^ bit_at h + p) (sym begins))

  -- every search in a sound tree has a way
  pub way : (h : ℕ) (l : Link) (key : ℕ) → h ≤ key_bits → key < 2 ^ key_bits → Hangs t n h (prefix h key) l → Way t n key h l (seek t h l key)
  way zero l key high small hangs =
      elim (cases_eq (t.link l) 0) [
        | inl none ↦ rw (seek_free t 0 l key none) (stops hangs none)
        | inr some ↦
            let (within, _, begins) = leads 0 (prefix 0 key) l hangs some in
            let fits : t.key (t.link l) < 2 ^ key_bits = (sound.found (record { row = t.link l; from = omega arith; to = within })).0 in
            rw (seek_last t l key some) (ends (hangs_row t n 0 (prefix 0 key) l hangs) some within (omega (arith, begins)))
      ]
  way (suc h) l key high small hangs =
      elim (cases_eq (t.link l) 0) [
        | inl none ↦ rw (seek_free t (suc h) l key none) (stops hangs none)
        | inr some ↦
            let (low, _, _) = leads (suc h) (prefix (suc h) key) l hangs some in
            let row : l.row ≤ n = hangs_row t n (suc h) (prefix (suc h) key) l hangs in
            elim (cases_eq (t.key (t.link l)) key) [
              | inl k ↦ rw (seek_here t (suc h) l key some k) (ends row some low k)
              | inr k ↦
                  rw (seek_on t h l key some k)
                  (goes row some low k (way h (link_below (t.link l) h key) key (omega arith) small (hangs_below h key l high hangs some)))
            ]
      ]

  -- the root hangs, for every key of four bytes
  pub hangs_root : (key : ℕ) → key < 2 ^ key_bits → Hangs t n key_bits (prefix key_bits key) root
  hangs_root key small = inl (refl, refl, omega arith)

  pub whole_way : (key : ℕ) → key < 2 ^ key_bits → Way t n key key_bits root (spot_of t key)
  whole_way key small = way key_bits root key (omega arith) small (hangs_root key small)

-- where a way ends at a row, the row has the key
pub way_at : {t : Tree} {n key h : ℕ} {l : Link} {s : Spot} (row left : ℕ) → Way t n key h l s → s ≡ at row left → (1 ≤ row) × (row ≤ n) × (t.key row ≡ key)
way_at row left (stops _ _) e = absurd (cc)
way_at {t} {n} {key} row left (ends {h} {l} _ some low k) e =
    let same : t.link l ≡ row = cc in
    (omega arith, omega arith, ap t.key (sym same) ∙ k)
way_at row left (goes _ _ _ _ w) e = way_at row left w e

-- where it ends at a link, that leads nowhere, and hangs where it was come to
pub way_free : {t : Tree} {n key h : ℕ} {l : Link} {s : Spot} (end : Link) (left : ℕ) → Way t n key h l s → s ≡ free end left →
    Hangs t n left (prefix left key) end × (t.link end ≡ 0)
way_free {t} {n} {key} end left (stops {h} {l} hangs none) e =
    let link : l ≡ end = cc in
    let bits : h ≡ left = cc in
    (subst (λ (k : Link). Hangs t n left (prefix left key) k) link (subst (λ b. Hangs t n b (prefix b key) l) bits hangs), ap t.link (sym link) ∙ none)
way_free end left (ends _ _ _ _) e = absurd (cc)
way_free end left (goes _ _ _ _ w) e = way_free end left w e
