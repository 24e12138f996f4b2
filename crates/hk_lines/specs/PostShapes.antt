-- The shape of a post's tokens: what they say, each number capped above the limits.
use Rattle.std.specs.Prelude.{◌≡◌, ℕ, List, map}
use Rattle.hk_lines.specs.declared.posts.PostArg.{PostArg}
use Rattle.hk_lines.specs.declared.posts.PostArg.TheVariants as read
use Rattle.hk_lines.specs.declared.posts.PostShape.{PostShape}
use Rattle.hk_lines.specs.Plain.{values_of}
use Rattle.hk_lines.specs.Posts.{ArgText, Number, Set, Numbers, Post, SaysPost}
use Rattle.hk_lines.specs.Shapes.{capped_signed, capped_values}

-- an argument that was read
abbrev pub plain_arg : PostArg → ArgText
plain_arg (read.Number value) = Number value
plain_arg (read.Set set) = Set (values_of set)
plain_arg (read.Numbers numbers) = Numbers numbers

-- the arguments, as they are read
abbrev pub args_of : List PostArg → List ArgText
args_of args = map plain_arg args

-- a post that was read
abbrev pub plain_post : PostShape → Post
plain_post shape = record { spec = shape.spec.now; args = args_of shape.args; names = map (λ name. name.now) shape.names }

-- the argument with its numbers capped
abbrev pub capped_arg : ArgText → ArgText
capped_arg (Number value) = Number (capped_signed value)
capped_arg (Set set) = Set (map capped_values set)
capped_arg (Numbers numbers) = Numbers (map capped_signed numbers)

-- the post with its numbers capped
abbrev pub capped_post : Post → Post
capped_post post = record { spec = post.spec; args = map capped_arg post.args; names = post.names }

-- the shape is that of a post that the texts say, with its numbers capped
abbrev pub IsPostShapeOf : List (List ℕ) → PostShape → Type 0
IsPostShapeOf texts shape = (post : Post) × SaysPost texts post × (plain_post shape ≡ capped_post post)

-- the texts say no post
abbrev pub SayNoPost : List (List ℕ) → Type 0
SayNoPost texts = (post : Post) → SaysPost texts post → ⊥
