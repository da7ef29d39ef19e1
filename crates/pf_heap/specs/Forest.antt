-- Binomial trees, as the nodes of an arena link them: a node's first child and its next sibling.
use Rattle.std.specs.Prelude.{◌≡◌, ℕ, ◌+◌, ◌-◌, ◌≤◌, ◌^◌, ◌⊎◌, false, cond}
use Rattle.std.specs.Ordering.{eq_by_cmp}
use Rattle.pf_order.specs.Priority.{Priority, precedes, key_cmp}

-- trees side by side: the first one's node, key and rank, its children, and the trees after it
pub data Forest : Type 0 where
  none : Forest
  tree : (at : ℕ) (key : Priority) (rank : ℕ) (kids : Forest) (rest : Forest) → Forest

-- one node with this key
abbrev pub single : ℕ → Priority → Forest
single at key = tree at key 0 none none

-- the link that stands for no node
abbrev pub nowhere : ℕ
nowhere = 2 ^ 16 - 1

-- the rank that stands for none
abbrev pub idle : ℕ
idle = 2 ^ 16 - 1

-- the first tree's node
abbrev pub head : Forest → ℕ
head none = nowhere
head (tree at key rank kids rest) = at

-- what all nodes weigh together
abbrev pub forest_weight : (ℕ → Priority → ℕ) → Forest → ℕ
forest_weight w none = 0
forest_weight w (tree at key rank kids rest) = w at key + (forest_weight w kids + forest_weight w rest)

-- 1 where the numbers are equal, else 0
unfoldable pub same : ℕ → ℕ → ℕ
same i j = 1 - ((i - j) + (j - i))

-- weights: how many nodes there are, those at one place, those of one task, those with one key
abbrev pub one_each : ℕ → Priority → ℕ
one_each at key = 1

abbrev pub at_place : ℕ → ℕ → Priority → ℕ
at_place i at key = same i at

abbrev pub of_task : ℕ → ℕ → Priority → ℕ
of_task t at key = same t key.task

abbrev pub of_key : Priority → ℕ → Priority → ℕ
of_key q at key = cond (eq_by_cmp key_cmp q key) 1 0

abbrev pub size : Forest → ℕ
size f = forest_weight one_each f

-- k does not precede p
abbrev pub IsBelow : Priority → Priority → Type 0
IsBelow p k = precedes k p ≡ false

-- no key precedes p
abbrev pub AllBelow : Priority → Forest → Type 0
AllBelow p none = Unit {0}
AllBelow p (tree at key rank kids rest) = IsBelow p key × AllBelow p kids × AllBelow p rest

-- the children of a node with key p and rank r: ranks r - 1 down to 0, none of them before p, each with such children
abbrev pub Falls : Priority → ℕ → Forest → Type 0
Falls p r none = r ≡ 0
Falls p r (tree at key rank kids rest) = (r ≡ rank + 1) × IsBelow p key × Falls key rank kids × Falls p rank rest

-- trees of strictly rising ranks, from r on
abbrev pub Rises : ℕ → Forest → Type 0
Rises r none = Unit {0}
Rises r (tree at key rank kids rest) = (r ≤ rank) × Falls key rank kids × Rises (rank + 1) rest

-- trees side by side, of any ranks
abbrev pub AreTrees : Forest → Type 0
AreTrees none = Unit {0}
AreTrees (tree at key rank kids rest) = Falls key rank kids × AreTrees rest

-- one tree of rank r, or none
abbrev pub IsTreeOrNone : ℕ → Forest → Type 0
IsTreeOrNone r none = Unit {0}
IsTreeOrNone r (tree at key rank kids none) = (rank ≡ r) × Falls key rank kids
IsTreeOrNone r (tree at key rank kids (tree at' key' rank' kids' rest')) = ⊥

-- the number of roots
abbrev pub roots : Forest → ℕ
roots none = 0
roots (tree at key rank kids rest) = 1 + roots rest

-- 1 where there is a tree, else 0
abbrev pub some : Forest → ℕ
some none = 0
some (tree at key rank kids rest) = 1

-- one of these trees has this node, key, rank and children
abbrev pub HasRoot : ℕ → Priority → ℕ → Forest → Forest → Type 0
HasRoot i p r f none = ⊥
HasRoot i p r f (tree at key rank kids rest) = ((at ≡ i) × (key ≡ p) × (rank ≡ r) × (kids ≡ f)) ⊎ HasRoot i p r f rest
