mod EmptyLists
