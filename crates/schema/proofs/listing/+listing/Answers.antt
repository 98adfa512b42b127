mod list_schema
mod list_keywords
mod list_properties
mod list_branches
mod list_part
use Rattle.schema.proofs.listing.+listing.Goals as goal

pub list_schema-returns-in_err-check_place : goal.list_schema-returns-in_err-check_place
list_schema-returns-in_err-check_place = list_schema.returns-in_err-check_place

pub list_schema-returns : goal.list_schema-returns
list_schema-returns = list_schema.returns

pub list_keywords-returns-in_err-list_part : goal.list_keywords-returns-in_err-list_part
list_keywords-returns-in_err-list_part = list_keywords.returns-in_err-list_part

pub list_keywords-loop-member-preserved : goal.list_keywords-loop-member-preserved
list_keywords-loop-member-preserved = list_keywords.loop-member-preserved

pub list_keywords-returns : goal.list_keywords-returns
list_keywords-returns = list_keywords.returns

pub list_keywords-returns-in_err-check_keyword : goal.list_keywords-returns-in_err-check_keyword
list_keywords-returns-in_err-check_keyword = list_keywords.returns-in_err-check_keyword

pub list_properties-loop-property-preserved : goal.list_properties-loop-property-preserved
list_properties-loop-property-preserved = list_properties.loop-property-preserved

pub list_properties-returns-in_err-list_part : goal.list_properties-returns-in_err-list_part
list_properties-returns-in_err-list_part = list_properties.returns-in_err-list_part

pub list_properties-returns : goal.list_properties-returns
list_properties-returns = list_properties.returns

pub list_branches-loop-i-preserved : goal.list_branches-loop-i-preserved
list_branches-loop-i-preserved = list_branches.loop-i-preserved

pub list_branches-returns-in_err-list_part : goal.list_branches-returns-in_err-list_part
list_branches-returns-in_err-list_part = list_branches.returns-in_err-list_part

pub list_branches-returns : goal.list_branches-returns
list_branches-returns = list_branches.returns

pub list_part-returns-in_ok-place-in-Schema-Object : goal.list_part-returns-in_ok-place-in-Schema-Object
list_part-returns-in_ok-place-in-Schema-Object = list_part.returns-in_ok-place-in-Schema-Object
