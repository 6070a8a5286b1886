use Rattle.std.proofs.Common.{◌≡◌, ℕ, suc, ◌-◌, ◌≤◌, ◌≢◌, List, length, Some, None, sym, ap, ◌∙◌, arith}
use Rattle.std.proofs.lemmas.Bool.Decides.{nat_tests}
use Rattle.rows.specs.Layout.{words_for, head_at, entry_at, link_at, row_named}
use Rattle.rows.specs.declared.Link.{Link}
use Rattle.book.specs.Tree.{tree_of, key_bits, turns_right, prefix, link_below, seek}
use Rattle.book.specs.Search.{end_of, led_to, Searchable}
use Rattle.book.proofs.Search.{seek_free, seek_here, seek_last, seek_on, led_free, led_on, hangs_row, leads, hangs_below}
use Rattle.book.proofs.tree.+seek.Goals as goal
use Rattle.book.proofs.tree.+seek.Goals.{then-height-eq0-via-then-height-eq0, then-height-eq0-via-else-height-eq0+then-read_key-key}

nowhere : (n : ℕ) → None ≡ row_named n → n ≡ 0
nowhere n e = grind (arith, nat_tests)

named : (n row : ℕ) → Some row ≡ row_named n → (row ≡ n) × (n ≢ 0)
named n row e = grind (arith, nat_tests)

module _ (m : List ℕ) (l : Link) (key row : ℕ) (is : Some row ≡ row_named (link_at m l)) where
  -- the link leads to the row
  there : row ≡ link_at m l
  there = (named (link_at m l) row is).0

  leads_on : link_at m l ≢ 0
  leads_on = (named (link_at m l) row is).1

  -- whose words are in memory
  row_room : (h : ℕ) → Searchable m l key h → words_for row ≤ length m
  row_room h s =
      let (low, _, _) = leads (tree_of m) (head_at m).count s.tree h (prefix h key) l s.hangs leads_on in
      let enough = s.enough in
      let e = there in
      omega arith

  -- from which the search goes on
  below : (h : ℕ) → Searchable m l key (suc h) → Searchable m (link_below row h key) key h
  below h s =
      rw there (record {
        enough = s.enough;
        tree = s.tree;
        hangs = hangs_below (tree_of m) (head_at m).count s.tree h key l s.high s.hangs leads_on;
        high = let high = s.high in omega arith;
      })

  last : (h : ℕ) → h ≡ 0 → led_to (tree_of m) l ≡ end_of (seek (tree_of m) h l key)
  last h e = led_on (tree_of m) l leads_on ∙ rw (e, seek_last (tree_of m) l key leads_on)

  here : (h : ℕ) → (entry_at m row).key ≡ key → led_to (tree_of m) l ≡ end_of (seek (tree_of m) h l key)
  here h k = led_on (tree_of m) l leads_on ∙ rw (seek_here (tree_of m) h l key leads_on (rw (← there) k))

  on : (h : ℕ) → (entry_at m row).key ≢ key → end_of (seek (tree_of m) h (link_below row h key) key) ≡ end_of (seek (tree_of m) (suc h) l key)
  on h k = rw (seek_on (tree_of m) h l key leads_on (rw (← there) k), there)

-- the link's own row is in memory
held : (m : List ℕ) (l : Link) (key h : ℕ) → Searchable m l key h → words_for l.row ≤ length m
held m l key h s =
    let low : l.row ≤ (head_at m).count = hangs_row (tree_of m) (head_at m).count h (prefix h key) l s.hangs in
    let enough = s.enough in
    omega arith

pub returns-in_default-clause-value : goal.returns-in_default-clause-value
returns-in_default-clause-value t c =
    let none : link_at c.args.memory.now c.args.link ≡ 0 = nowhere (link_at c.args.memory.now c.args.link) c.in_default.ensures in
    led_free (tree_of c.args.memory.now) c.args.link none ∙ rw (seek_free (tree_of c.args.memory.now) c.args.height c.args.link c.args.key none)

pub returns-in_default-clause-within : goal.returns-in_default-clause-within
returns-in_default-clause-within t c = held c.args.memory.now c.args.link c.args.key c.args.height c.requires

pub read_key-requires : goal.read_key-requires
read_key-requires t c = row_room c.args.memory.now c.args.link c.args.key c.in-Some.row c.in-Some.ensures c.args.height c.requires

pub returns-then-height-eq0-clause-within : goal.returns-then-height-eq0-clause-within
returns-then-height-eq0-clause-within t c = held c.args.memory.now c.args.link c.args.key c.args.height c.requires

pub returns-then-height-eq0-clause-value : goal.returns-then-height-eq0-clause-value
returns-then-height-eq0-clause-value t c =
    elim c.then-height-eq0.branch [
      | then-height-eq0-via-then-height-eq0 w ↦
          last c.args.memory.now c.args.link c.args.key c.in-Some.row c.in-Some.ensures c.args.height w.if-height-eq0.true
      | then-height-eq0-via-else-height-eq0+then-read_key-key w ↦
          here c.args.memory.now c.args.link c.args.key c.in-Some.row c.in-Some.ensures c.args.height (sym w.read_key.ensures ∙ w.if-read_key-key.true)
    ]

pub seek-requires : goal.seek-requires
seek-requires t c =
    let one : suc (c.args.height - 1) ≡ c.args.height = let h = c.if-height-eq0.false in omega arith in (
      omega arith,
      rw (c.turns_right-right.ensures, ap (λ h. turns_right (key_bits - h) c.args.key) (sym one)) (below c.args.memory.now c.args.link c.args.key c.in-Some.row c.in-Some.ensures (c.args.height - 1) (rw one c.requires)),
    )

pub returns-clause-within : goal.returns-clause-within
returns-clause-within t c = c.seek.ensures.within

pub returns-clause-value : goal.returns-clause-value
returns-clause-value t c =
    let one : suc (c.args.height - 1) ≡ c.args.height = let h = c.if-height-eq0.false in omega arith in
    c.seek.ensures.value
    ∙ ap (λ t. end_of (seek (tree_of c.args.memory.now) (c.args.height - 1) (record { row = c.in-Some.row; right = t }) c.args.key)) (c.turns_right-right.ensures ∙ ap (λ h. turns_right (key_bits - h) c.args.key) (sym one))
    ∙ on c.args.memory.now c.args.link c.args.key c.in-Some.row c.in-Some.ensures (c.args.height - 1) (λ k. c.if-read_key-key.false (c.read_key.ensures ∙ k))
    ∙ ap (λ h. end_of (seek (tree_of c.args.memory.now) h c.args.link c.args.key)) one
