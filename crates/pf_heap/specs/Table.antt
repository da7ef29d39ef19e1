-- Trees by rank: a heap's roots in a table, as the digits of a number in base two.
use Rattle.std.specs.Prelude.{◌≡◌, ◌≢◌, ℕ, ◌+◌, ◌*◌, ◌<◌, ◌≤◌, ◌^◌, List, [], ◌∷◌, ◌++◌, length, slice_index_or}
use Rattle.pf_order.specs.Priority.{Priority}
use Rattle.pf_order.specs.Counts.{Counts, Compares}
use Rattle.pf_heap.specs.declared.node.Node.{Node}
use Rattle.pf_heap.specs.declared.table.Roots.{Roots}
use Rattle.pf_heap.specs.Forest.{Forest, none, tree, nowhere, head, forest_weight, roots, some, AllBelow, Rises, IsTreeOrNone, AreTrees}
use Rattle.pf_heap.specs.Memory.{Part, root, all_roots, weigh_all, Parts}

-- the ranks that there are, as bits
abbrev pub mask_of : List Forest → ℕ
mask_of [] = 0
mask_of (f ∷ fs) = some f + 2 * mask_of fs

-- how many trees there are
abbrev pub tree_count : List Forest → ℕ
tree_count [] = 0
tree_count (f ∷ fs) = some f + tree_count fs

-- in each place there is one tree of that rank or none, where the first place is that of rank r
abbrev pub AreByRank : ℕ → List Forest → Type 0
AreByRank r [] = Unit {0}
AreByRank r (f ∷ fs) = IsTreeOrNone r f × AreByRank (r + 1) fs

-- none of these trees' keys precedes p
abbrev pub NoneBefore : Priority → List Forest → Type 0
NoneBefore p [] = Unit {0}
NoneBefore p (f ∷ fs) = AllBelow p f × NoneBefore p fs

-- the table's bits tell which ranks there are, and its links their roots
pub record IsTable (table : Roots) (trees : List Forest) : Type 0 where
  pub places : length table.trees ≡ 16
  pub long : length trees ≡ 16
  pub by_rank : AreByRank 0 trees
  pub ranks : table.ranks ≡ mask_of trees
  pub links : (r : ℕ) → slice_index_or trees r none ≢ none → slice_index_or table.trees r nowhere ≡ head (slice_index_or trees r none)

-- a tree of this rank stands beside those of a table
pub record HasTreeAndTable (nodes : List Node) (table : Roots) (rank at : ℕ) : Type 0 where
  pub added : Forest
  pub trees : List Forest
  pub others : List Part
  pub added_is : at ≡ head added
  pub some_tree : at ≢ nowhere
  pub is_tree : IsTreeOrNone rank added
  pub table_is : IsTable table trees
  pub small : length nodes < 2 ^ 16
  pub parts : Parts nodes (root added ∷ (all_roots trees ++ others))

-- a tree is carried through a table: it has this rank, and the table has lost as many trees as it was joined with
pub record IsCarriedTo (nodes : List Node) (rank : ℕ) (added : Forest) (trees : List Forest) (others : List Part) (link : ℕ) (before after : Counts) : Type 0 where
  pub carry : Forest
  pub now : List Forest
  pub carry_is : link ≡ head carry
  pub some_tree : link ≢ nowhere
  pub is_tree : IsTreeOrNone rank carry
  pub long : length now ≡ length trees
  pub by_rank : AreByRank 0 now
  pub higher : (r : ℕ) → rank ≤ r → slice_index_or now r none ≡ slice_index_or trees r none
  pub left : (r : ℕ) → slice_index_or now r none ≢ none → slice_index_or now r none ≡ slice_index_or trees r none
  pub small : length nodes < 2 ^ 16
  pub parts : Parts nodes (root carry ∷ (all_roots now ++ others))
  pub kept : (w : ℕ → Priority → ℕ) → forest_weight w carry + weigh_all w (all_roots now) ≡ forest_weight w added + weigh_all w (all_roots trees)
  pub made : ℕ
  pub made_is : made + tree_count now ≡ tree_count trees
  pub counted : Compares made before after

-- trees are added to a table, by as many comparisons as there are fewer trees then
pub record IsInTable (nodes : List Node) (table : Roots) (added : Forest) (trees : List Forest) (others : List Part) (before after : Counts) : Type 0 where
  pub now : List Forest
  pub table_is : IsTable table now
  pub small : length nodes < 2 ^ 16
  pub parts : Parts nodes (all_roots now ++ others)
  pub kept : (w : ℕ → Priority → ℕ) → weigh_all w (all_roots now) ≡ forest_weight w added + weigh_all w (all_roots trees)
  pub made : ℕ
  pub made_is : made + tree_count now ≡ tree_count trees + roots added
  pub counted : Compares made before after

-- a list of trees stands beside those of a table, under the parent `up`
pub record HasListAndTable (nodes : List Node) (table : Roots) (link : ℕ) : Type 0 where
  pub up : ℕ
  pub list : Forest
  pub trees : List Forest
  pub others : List Part
  pub link_is : link ≡ head list
  pub are_trees : AreTrees list
  pub few : roots list ≤ 16
  pub table_is : IsTable table trees
  pub small : length nodes < 2 ^ 16
  pub parts : Parts nodes ((up, list) ∷ (all_roots trees ++ others))

-- some of a list's trees are added to a table, and the others are left
pub record IsAddingAll (nodes : List Node) (table : Roots) (up : ℕ) (list : Forest) (trees : List Forest) (others : List Part) (rest_link steps : ℕ) (before after : Counts) : Type 0 where
  pub rest : Forest
  pub now : List Forest
  pub rest_is : rest_link ≡ head rest
  pub are_trees : AreTrees rest
  pub few : roots rest + steps ≤ 16
  pub table_is : IsTable table now
  pub small : length nodes < 2 ^ 16
  pub parts : Parts nodes ((up, rest) ∷ (all_roots now ++ others))
  pub kept : (w : ℕ → Priority → ℕ) → forest_weight w rest + weigh_all w (all_roots now) ≡ forest_weight w list + weigh_all w (all_roots trees)
  pub made : ℕ
  pub made_is : made + (tree_count now + roots rest) ≡ tree_count trees + roots list
  pub counted : Compares made before after

-- there are the trees of a table
pub record HasTable (nodes : List Node) (table : Roots) : Type 0 where
  pub trees : List Forest
  pub others : List Part
  pub table_is : IsTable table trees
  pub small : length nodes < 2 ^ 16
  pub parts : Parts nodes (all_roots trees ++ others)

-- a root of a table, before whose key none of the table's comes
pub record IsFirstRoot (trees : List Forest) (at : ℕ) (before after : Counts) : Type 0 where
  pub key : Priority
  pub rank : ℕ
  pub kids : Forest
  pub place : rank < length trees
  pub tree_is : slice_index_or trees rank none ≡ tree at key rank kids none
  pub first : NoneBefore key trees
  pub made : ℕ
  pub made_few : made + 1 ≤ tree_count trees
  pub counted : Compares made before after

-- the first of the roots that were seen: those of the ranks in `rest` weren't
pub record IsSeekingIn (trees : List Forest) (best rest steps : ℕ) (before after : Counts) : Type 0 where
  pub key : Priority
  pub rank : ℕ
  pub kids : Forest
  pub left : List Forest
  pub place : rank < length trees
  pub tree_is : slice_index_or trees rank none ≡ tree best key rank kids none
  pub rest_is : rest ≡ mask_of left
  pub long : length left ≡ length trees
  pub unseen : (r : ℕ) → slice_index_or left r none ≢ none → slice_index_or left r none ≡ slice_index_or trees r none
  pub seen : (r : ℕ) → slice_index_or left r none ≡ none → AllBelow key (slice_index_or trees r none)
  pub few : steps + tree_count left ≤ 16
  pub made : ℕ
  pub made_few : made + (tree_count left + 1) ≤ tree_count trees
  pub counted : Compares made before after

-- the trees of the ranks from `bound` on are a list, and the others are left
pub record IsListing (nodes : List Node) (trees : List Forest) (others : List Part) (link bound : ℕ) : Type 0 where
  pub left : List Forest
  pub list : Forest
  pub link_is : link ≡ head list
  pub rises : Rises bound list
  pub long : length left ≡ length trees
  pub lower : (r : ℕ) → r < bound → slice_index_or left r none ≡ slice_index_or trees r none
  pub higher : (r : ℕ) → bound ≤ r → slice_index_or left r none ≡ none
  pub small : length nodes < 2 ^ 16
  pub parts : Parts nodes (root list ∷ (all_roots left ++ others))
  pub kept : (w : ℕ → Priority → ℕ) → forest_weight w list + weigh_all w (all_roots left) ≡ weigh_all w (all_roots trees)

-- the trees of the ranks above this one are a list
pub record HasListAbove (nodes : List Node) (table : Roots) (rank link : ℕ) : Type 0 where
  pub trees : List Forest
  pub others : List Part
  pub table_is : IsTable table trees
  pub now : IsListing nodes trees others link (rank + 1)

-- the table's trees are a list of rising ranks
pub record IsListed (nodes : List Node) (trees : List Forest) (others : List Part) (link : ℕ) : Type 0 where
  pub list : Forest
  pub list_is : link ≡ head list
  pub rises : Rises 0 list
  pub small : length nodes < 2 ^ 16
  pub parts : Parts nodes (root list ∷ others)
  pub kept : (w : ℕ → Priority → ℕ) → forest_weight w list ≡ weigh_all w (all_roots trees)
