-- What the names of an expression stand for, and whether its numbers and its depth are within the limits.
use Rattle.std.specs.Prelude.{map, false, ◌≡◌, ℕ, ◌+◌, ◌≤◌, max, ◌⊎◌, Bool, List, [], ◌∷◌, All, Any, Some, Contains, IsTrue, codes}
use Rattle.hk_kinds.specs.declared.kinds.Kind.{Kind}
use Rattle.hk_spec.specs.Scopes.{Scope, is_number_kind, is_interval_kind, is_set_kind}
use Rattle.hk_spec.specs.Specifications.{kinds_of_properties}
use Rattle.hk_spec.specs.declared.parts.Param.{Param}
use Rattle.hk_spec.specs.declared.parts.ParamKind.{ParamKind}
use Rattle.hk_spec.specs.declared.parts.ParamKind.TheVariants as param
use Rattle.hk_spec.specs.declared.parts.PropDecl.{PropDecl}
use Rattle.hk_text.specs.Numbers.{IsNumber}
use Rattle.hk_terms.specs.SetTexts as set
use Rattle.hk_terms.specs.SetTexts.{SetText}
use Rattle.hk_terms.specs.NumTexts as num
use Rattle.hk_terms.specs.NumTexts.{NumText}
use Rattle.hk_terms.specs.CondTexts as cond
use Rattle.hk_terms.specs.CondTexts.{CondText}

-- what an expression may name: parameters, and properties of both sides
pub record Names : Type 0 where
  pub params : List Param
  pub down : List PropDecl
  pub up : List PropDecl

-- what the names are, as the scope of an expression
abbrev pub scope_of : Names → Scope
scope_of names = record { params = map (λ (p : Param). p.kind) names.params; down = kinds_of_properties names.down; up = kinds_of_properties names.up; best = false }

-- a parameter of this kind has this name
abbrev pub HasParam : Names → ParamKind → List ℕ → Type 0
HasParam names kind word = Any (λ (p : Param). (p.name ≡ word) × (p.kind ≡ kind)) names.params

-- a property of such a kind has this name
abbrev pub HasProperty : Names → (Kind → Bool) → List ℕ → Type 0
HasProperty names of word =
    Any (λ (p : PropDecl). (p.name ≡ word) × IsTrue (of p.kind)) names.down
    ⊎ Any (λ (p : PropDecl). (p.name ≡ word) × IsTrue (of p.kind)) names.up

-- the words of the value, the position and the number of positions
abbrev pub plain_words : List (List ℕ)
plain_words = codes "v" ∷ codes "i" ∷ codes "n" ∷ []

-- a word that stands for a number
abbrev pub IsNumName : Names → List ℕ → Type 0
IsNumName names word = Contains plain_words word ⊎ (HasParam names param.Num word ⊎ HasProperty names (λ kind. is_number_kind (Some kind)) word)

-- a word that stands for a set
abbrev pub IsSetName : Names → List ℕ → Type 0
IsSetName names word = HasParam names param.Set word ⊎ HasProperty names (λ kind. is_set_kind (Some kind)) word

-- each name of an expression stands for what its place asks
abbrev pub NamesSet : Names → SetText → Type 0
NamesSet names (set.Values numbers) = Unit {0}
NamesSet names set.One = Unit {0}
NamesSet names (set.Named word) = IsSetName names word
NamesSet names (set.Joined operation a b) = NamesSet names a × NamesSet names b

abbrev pub NamesNum : Names → NumText → Type 0
NamesNum names (num.Number negative digits) = Unit {0}
NamesNum names (num.Named word) = IsNumName names word
NamesNum names (num.Item word) = HasParam names param.List word
NamesNum names (num.Low word) = HasProperty names (λ kind. is_interval_kind (Some kind)) word
NamesNum names (num.High word) = HasProperty names (λ kind. is_interval_kind (Some kind)) word
NamesNum names (num.Card set) = NamesSet names set
NamesNum names (num.Joined operation a b) = NamesNum names a × NamesNum names b
NamesNum names (num.Chosen choice a b) = NamesNum names a × NamesNum names b
NamesNum names (num.Negative a) = NamesNum names a

abbrev pub NamesCond : Names → CondText → Type 0
NamesCond names (cond.Truth holds) = Unit {0}
NamesCond names (cond.Compared comparison a b) = NamesNum names a × NamesNum names b
NamesCond names (cond.Member inside set) = NamesSet names set
NamesCond names (cond.Subset a b) = NamesSet names a × NamesSet names b
NamesCond names (cond.Joined both a b) = NamesCond names a × NamesCond names b
NamesCond names (cond.Not a) = NamesCond names a

-- the text writes a number of at most this size
abbrev pub WritesUpTo : ℕ → List ℕ → Type 0
WritesUpTo most text = (n : ℕ) → IsNumber text n → n ≤ most

-- the numbers of an expression are within their limits
abbrev pub SmallSet : SetText → Type 0
SmallSet (set.Values numbers) = All (WritesUpTo 127) numbers
SmallSet set.One = Unit {0}
SmallSet (set.Named word) = Unit {0}
SmallSet (set.Joined operation a b) = SmallSet a × SmallSet b

abbrev pub SmallNum : NumText → Type 0
SmallNum (num.Number negative digits) = WritesUpTo 1000000000000 digits
SmallNum (num.Named word) = Unit {0}
SmallNum (num.Item word) = Unit {0}
SmallNum (num.Low word) = Unit {0}
SmallNum (num.High word) = Unit {0}
SmallNum (num.Card set) = SmallSet set
SmallNum (num.Joined operation a b) = SmallNum a × SmallNum b
SmallNum (num.Chosen choice a b) = SmallNum a × SmallNum b
SmallNum (num.Negative a) = SmallNum a

abbrev pub SmallCond : CondText → Type 0
SmallCond (cond.Truth holds) = Unit {0}
SmallCond (cond.Compared comparison a b) = SmallNum a × SmallNum b
SmallCond (cond.Member inside set) = SmallSet set
SmallCond (cond.Subset a b) = SmallSet a × SmallSet b
SmallCond (cond.Joined both a b) = SmallCond a × SmallCond b
SmallCond (cond.Not a) = SmallCond a

-- the depth of an expression: that of its deepest part and one more; a leaf has 1
abbrev pub set_depth : SetText → ℕ
set_depth (set.Values numbers) = 1
set_depth set.One = 1
set_depth (set.Named word) = 1
set_depth (set.Joined operation a b) = max (set_depth a) (set_depth b) + 1

abbrev pub num_depth : NumText → ℕ
num_depth (num.Number negative digits) = 1
num_depth (num.Named word) = 1
num_depth (num.Item word) = 1
num_depth (num.Low word) = 1
num_depth (num.High word) = 1
num_depth (num.Card set) = set_depth set + 1
num_depth (num.Joined operation a b) = max (num_depth a) (num_depth b) + 1
num_depth (num.Chosen choice a b) = max (num_depth a) (num_depth b) + 1
num_depth (num.Negative a) = num_depth a + 1

abbrev pub cond_depth : CondText → ℕ
cond_depth (cond.Truth holds) = 1
cond_depth (cond.Compared comparison a b) = max (num_depth a) (num_depth b) + 1
cond_depth (cond.Member inside set) = set_depth set + 1
cond_depth (cond.Subset a b) = max (set_depth a) (set_depth b) + 1
cond_depth (cond.Joined both a b) = max (cond_depth a) (cond_depth b) + 1
cond_depth (cond.Not a) = cond_depth a + 1
